-- The kinds of the vectors' body by their numbers.
use Rattle.std.specs.Prelude.{◌≡◌, ℕ, Result, MatchResult, true, false, not}
use Rattle.network.specs.declared.refusal.Refusal.{Refusal}
use Rattle.network.specs.declared.refusal.Refusal.TheVariants.{JobLayout}
use Rattle.jobfile.specs.VectorsBody.{vectors_kind}
use Rattle.jobfile.specs.declared.kind.BodyKind.{BodyKind}
use Rattle.jobfile.specs.declared.kind.BodyKind.TheVariants.{Vectors, NetByNet}

-- the number of a kind
abbrev pub number_of_kind : BodyKind → ℕ
number_of_kind Vectors = 2
number_of_kind NetByNet = 4

-- the kind of a number, or the refusal of row 2
abbrev pub KindRead : ℕ → Result BodyKind Refusal → Type 0
KindRead number r = MatchResult r (λ kind. (number_of_kind kind ≡ number) × (not (vectors_kind number) ≡ false))
    (λ refusal. (refusal ≡ JobLayout) × (not (vectors_kind number) ≡ true))
