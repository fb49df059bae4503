use Rattle.std.proofs.Common.{◌≡◌, sym, ap, ◌∙◌, false, not, arith, rules, length, length-take-le, take}
use Rattle.network.proofs.Rows.{decides_high_bit}
use Rattle.network.specs.Rows.{has_high_bit}
use Rattle.session.proofs.Records.{fails_at, zeros_after, board_is, awaits_second_parts, length_told, answers_told, short_told}
use Rattle.session.proofs.Records.{owners_count, high_told, unclear_told, answers_hold}
use Rattle.session.proofs.record.waiting_for_second.Goals as goal

pub returns-then-not-is_at_second : goal.returns-then-not-is_at_second
returns-then-not-is_at_second c =
    rw (awaits_second_parts c.args.session.now, sym c.is_at_second.ensures ∙ c.if-not-is_at_second.true)

pub returns-in_err-board : goal.returns-in_err-board
returns-in_err-board c =
    rw (
      c.from_residual.ensures,
      awaits_second_parts c.args.session.now,
      sym c.is_at_second.ensures ∙ c.if-not-is_at_second.false,
      c.in_err-board.ensures,
    )

pub shared_ref_as_front-first : goal.shared_ref_as_front-first
shared_ref_as_front-first c =
    let held = c.in_ok-board.ensures in
    short_told c.args.session.now c.in_ok-board.board held.1 held.2 held.0 _ c.word_length-p.ensures

pub has_high_bit-requires : goal.has_high_bit-requires
has_high_bit-requires c =
    let s = c.args.session.now in
    (board_is s.network s.receivers s.owners c.in_ok-board.ensures.0).few

pub returns-then-not-is_zeros : goal.returns-then-not-is_zeros
returns-then-not-is_zeros c =
    let s = c.args.session.now in
    let held = c.in_ok-board.ensures in
    let same = length_told s c.in_ok-board.board held.1 held.2 held.0 _ c.word_length-p.ensures in
    rw (
      awaits_second_parts s,
      sym c.is_at_second.ensures ∙ c.if-not-is_at_second.false,
      held.0,
      fails_at 1 _ (zeros_after 8 s.first _ _ (search rules) same c.is_zeros.ensures c.if-not-is_zeros.true),
    )

pub returns-then-has_high_bit : goal.returns-then-has_high_bit
returns-then-has_high_bit c =
    let s = c.args.session.now in
    let held = c.in_ok-board.ensures in
    let high = high_told s c.in_ok-board.board held.1 held.2 held.0 _ c.word_length-p.ensures c.has_high_bit.ensures in
    rw (
      awaits_second_parts s,
      sym c.is_at_second.ensures ∙ c.if-not-is_at_second.false,
      held.0,
      fails_at 2 _ (ap not (high ∙ c.if-has_high_bit.true)),
    )

pub returns-then-is_empty : goal.returns-then-is_empty
returns-then-is_empty c =
    let s = c.args.session.now in
    let held = c.in_ok-board.ensures in
    let none = unclear_told s c.in_ok-board.board held.1 held.2 held.0 _ c.word_length-p.ensures
    c.second_vectors-vectors.ensures c.is_empty.ensures in
    rw (
      awaits_second_parts s,
      sym c.is_at_second.ensures ∙ c.if-not-is_at_second.false,
      held.0,
      fails_at 3 _ (ap not (none ∙ c.if-is_empty.true)),
    )

pub invariant_of-result : goal.invariant_of-result
invariant_of-result c =
    let s = c.args.session.now in
    let board = c.in_ok-board.board in
    let held = c.in_ok-board.ensures in
    let p = c.word_length-p.result in
    let short = short_told s board held.1 held.2 held.0 _ c.word_length-p.ensures in
    let eight : length s.first ≡ 8 = search rules in
    let narrow : has_high_bit (length board.receivers.now) (take p s.first) ≡ false =
    rw (owners_count s board held.1 held.2 held.0 _ c.word_length-p.ensures)
    (sym c.has_high_bit.ensures ∙ c.if-has_high_bit.false) in record {
      one_a_word = length-take-le p s.first (omega (arith, short, eight)) ∙ c.word_length-p.ensures;
      narrow = (decides_high_bit (length board.receivers.now) (take p s.first)).1 narrow;
      asked = c.second_vectors-vectors.ensures;
    }

pub returns : goal.returns
returns c =
    let s = c.args.session.now in
    let board = c.in_ok-board.board in
    let held = c.in_ok-board.ensures in
    let is = c.word_length-p.ensures in
    let answers =
    answers_hold s.network _ s.first (search rules)
    (zeros_after 8 s.first _ _ (search rules) (length_told s board held.1 held.2 held.0 _ is) c.is_zeros.ensures c.if-not-is_zeros.false)
    (high_told s board held.1 held.2 held.0 _ is c.has_high_bit.ensures ∙ c.if-has_high_bit.false)
    (unclear_told s board held.1 held.2 held.0 _ is c.second_vectors-vectors.ensures c.is_empty.ensures ∙ c.if-is_empty.false)
    in (
      rw (awaits_second_parts s, sym c.is_at_second.ensures ∙ c.if-not-is_at_second.false, held.0, answers),
      held.1,
      held.2,
      answers_told s board held.1 held.2 held.0 _ is,
    )
