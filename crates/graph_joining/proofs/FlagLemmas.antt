-- The flag of a collection that is read.
use Rattle.std.proofs.Common.{◌≡◌, ℕ, Bool, true, false, eqb, ◌||◌, ◌&&◌, refl, sym, ap, ◌∙◌}
use Rattle.exec_graph.specs.Meaning.{place}
use Rattle.exec_graph.specs.Readers.{same_place}
use Rattle.exec_graph.specs.declared.graph.Place.{Place}

alone : (a : Bool) → a ≡ (a || false)
alone true = refl
alone false = refl

pub other_place : (old : Bool) (n j : ℕ) (c : Place) → eqb n c.node ≡ false
    → old ≡ (old || same_place (place n j) c)
other_place old n j c e = alone old ∙ ap (λ (b : Bool). old || (b && eqb j c.out)) (sym e)

pub this_place : (old new : Bool) (n j : ℕ) (c : Place) → eqb n c.node ≡ true
    → new ≡ (old || eqb j c.out) → new ≡ (old || same_place (place n j) c)
this_place old new n j c e h = h ∙ ap (λ (b : Bool). old || (b && eqb j c.out)) (sym e)
