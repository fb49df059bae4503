use Rattle.std.proofs.Common.{ℕ, ◌≡◌, List, [], ◌∷◌, length, map, true≢false, nat_eq, rules, tests, refl, ap₂, arith}
use Rattle.std.proofs.lemmas.Iterator.{YieldsList-from_slice, YieldsList-from_zip}
use Rattle.std.proofs.lemmas.Iterator.Search.{all_from_yields_List}
use Rattle.std.specs.List.{zip, list_all}
use Rattle.words.specs.Answers.{Decides}
use Rattle.words.proofs.Tests.{decides_equal, decides_and}
use Rattle.network.specs.Reading.{response_word, response}
use Rattle.diagnosis.proofs.fit.gives_response.Goals as goal

-- place by place the same
decides_same : (f : ℕ → ℕ) (xs ys : List ℕ) → length ys ≡ length xs
    → Decides (list_all (λ p. nat_eq (f p.0) p.1) (zip xs ys)) (map f xs ≡ ys)
decides_same f [] [] e = (λ t. refl, λ t. absurd (true≢false t))
decides_same f [] (y ∷ ys) e = absurd (omega arith)
decides_same f (x ∷ xs) [] e = absurd (omega arith)
decides_same f (x ∷ xs) (y ∷ ys) e =
    let both = decides_and (decides_equal (f x) y) (decides_same f xs ys (omega arith)) in
    (λ t. let h = both.0 t in ap₂ (λ (z : ℕ) (zs : List ℕ). z ∷ zs) h.0 h.1, λ t q. both.1 t (cc, cc))

pub returns : goal.returns
unfolding response
returns c =
    let a = c.args in
    let f = response_word a.net a.state.now in
    let e : c.all.result ≡ list_all (λ p. nat_eq (f p.0) p.1) (zip a.vectors.now a.responses.now) =
    all_from_yields_List (λ p. nat_eq (f p.0) p.1) c.all.new.self _ _ c.all.ensures.ran
    (YieldsList-from_zip (YieldsList-from_slice a.vectors.now cc) (YieldsList-from_slice a.responses.now cc))
    (λ x b q k. search (rules, tests)) in
    rw e (decides_same f a.vectors.now a.responses.now c.requires.0)
