use Rattle.std.proofs.Common.{ℕ, arith, ◌≡◌, sym, ap, ◌∙◌, subst}
use Rattle.network.specs.Reading.{walking_vector}
use Rattle.network.proofs.Walking.{Names, walking_names, names_none, names_one}
use Rattle.network.proofs.admitting.Nets.walked_driver.Goals as goal

pub returns-then-self-i : goal.returns-then-self-i
returns-then-self-i c =
    let a = c.args in
    names_none a.self.network a.vector
    (λ i l e. let named : c.lowest_net-i.result ≡ i = c.lowest_net-i.ensures
    ∙ walking_names a.self.network a.vector c.active_bits-active.result i (omega arith) l c.active_bits-active.ensures.0 e in omega arith)

pub returns-then-vector-walking : goal.returns-then-vector-walking
returns-then-vector-walking c =
    let a = c.args in
    names_none a.self.network a.vector
    (λ i l e. let named : c.lowest_net-i.result ≡ i = c.lowest_net-i.ensures
    ∙ walking_names a.self.network a.vector c.active_bits-active.result i (omega arith) l c.active_bits-active.ensures.0 e in
    c.if-vector-walking.true (e ∙ ap (walking_vector a.self.network) (sym named) ∙ sym c.walking_vector-walking.ensures))

pub returns : goal.returns
returns c =
    let a = c.args in
    subst (λ (x : ℕ). Names a.self.network a.vector x) (sym c.bit_word.ensures)
    (names_one a.self.network a.vector c.lowest_net-i.result (omega arith)
    (c.if-vector-walking.false ∙ c.walking_vector-walking.ensures))
