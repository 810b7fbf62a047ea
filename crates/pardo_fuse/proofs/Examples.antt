-- Worked examples: what fusing makes of steps with two outputs.
use Rattle.std.proofs.Common.{◌≡◌, ℕ, Bool, true, false, List, [], ◌∷◌, Option, Some, None, refl}
use Rattle.exec_graph.specs.Forests.{Label, Forest, Bare, Grow}
use Rattle.exec_graph.specs.Meaning.{place}
use Rattle.exec_graph.specs.declared.step.Does.TheVariants as does
use Rattle.exec_graph.specs.declared.graph.Place.{Place}
use Rattle.exec_graph.specs.declared.graph.Node.{Node}
use Rattle.exec_graph.specs.declared.graph.Node.TheVariants.{Source, Flatten, Pdo, Barrier}
use Rattle.exec_graph.specs.declared.graph.Act.TheVariants.{SideInput, Operate}
use Rattle.exec_graph.specs.declared.graph.Entry.{Entry}
use Rattle.exec_graph.specs.declared.graph.Blocked.{Blocked}
use Rattle.pardo_fuse.specs.Readers.{cut_of}
use Rattle.pardo_fuse.specs.Parting.{parted}
use Rattle.pardo_fuse.specs.Fusing.{fused, hanging, joined_by, members}
use Rattle.pardo_fuse.specs.SingleFusing.{fused_by, trees}

abbrev at : ℕ → Node → Entry
at n x = record { number = n; node = x }

abbrev rows : ℕ → Bool → Node
rows r o = Source (record { number = r; is_object = o })

abbrev label : ℕ → ℕ → Option ℕ → Label
label n i o = record { origin = n; last = true; does = does.Call n; at = i; out = o }

-- The outputs of a step of origin n with two.
abbrev two : ℕ → Option ℕ → Forest → Option ℕ → Forest → Forest → Forest
two n o over p under rest = Grow (label n 0 o) over (Grow (label n 1 p) under rest)

abbrev one : ℕ → Option ℕ → Forest → Forest → Forest
one n o over rest = Grow (label n 0 o) over rest

abbrev pdo : ℕ → Place → Forest → Entry
pdo n c f = at n (Pdo c f)

abbrev blocked : List Entry → List Place → List Place → Blocked
blocked es outputs marks =
    record { graph = record { nodes = es; outputs = outputs; next = 100 }; marks = marks }

-- One output is marked and one is not: of the unmarked output's reader comes a kid.
half_marked : fused (blocked
    (at 0 (rows 0 false) ∷ (pdo 1 (place 0 0) (two 1 (Some 0) Bare (Some 1) Bare Bare)
    ∷ (pdo 2 (place 1 0) (one 2 (Some 0) Bare Bare) ∷ (pdo 3 (place 1 1) (one 3 (Some 0) Bare Bare)
    ∷ []))))
    (place 2 0 ∷ (place 3 0 ∷ [])) (place 1 1 ∷ []))
    ≡ blocked
    (at 0 (rows 0 false) ∷ (pdo 1 (place 0 0)
    (two 1 None (one 2 (Some 0) Bare Bare) (Some 1) Bare Bare)
    ∷ (pdo 3 (place 1 1) (one 3 (Some 0) Bare Bare) ∷ [])))
    (place 1 0 ∷ (place 3 0 ∷ [])) (place 1 1 ∷ [])
unfolding joined_by hanging members
half_marked = refl

-- Kids on both outputs of one step, an output of a kid that a Flatten reads too, and preorder.
both_kids : fused (blocked
    (at 0 (rows 0 false) ∷ (pdo 1 (place 0 0) (two 1 (Some 0) Bare (Some 1) Bare Bare)
    ∷ (pdo 2 (place 1 1) (one 2 (Some 0) Bare Bare) ∷
    (pdo 3 (place 1 0) (two 3 (Some 0) Bare (Some 1) Bare Bare)
    ∷ (pdo 4 (place 1 0) (one 4 (Some 0) Bare Bare) ∷ [])))))
    (place 2 0 ∷ (place 3 0 ∷ (place 3 1 ∷ (place 4 0 ∷ (place 1 1 ∷ []))))) [])
    ≡ blocked
    (at 0 (rows 0 false) ∷ (pdo 1 (place 0 0)
    (two 1 None (two 3 (Some 0) Bare (Some 1) Bare (one 4 (Some 2) Bare Bare))
    (Some 3) (one 2 (Some 4) Bare Bare) Bare) ∷ []))
    (place 1 4 ∷ (place 1 0 ∷ (place 1 1 ∷ (place 1 2 ∷ (place 1 3 ∷ []))))) []
unfolding joined_by hanging members
both_kids = refl

-- An output that nobody reads has no number, before and after.
unread : fused (blocked
    (at 0 (rows 0 false) ∷ (pdo 1 (place 0 0) (two 1 None Bare (Some 0) Bare Bare)
    ∷ (pdo 2 (place 1 0) (one 2 (Some 0) Bare Bare) ∷ [])))
    (place 2 0 ∷ []) [])
    ≡ blocked
    (at 0 (rows 0 false) ∷
    (pdo 1 (place 0 0) (two 1 None Bare None (one 2 (Some 0) Bare Bare) Bare) ∷ []))
    (place 1 0 ∷ []) []
unfolding joined_by hanging members
unread = refl

-- Two nodes read both outputs: the Flattens 2 and 3. The step 4 and its sibling 1 are one Pdo.
both_read : fused (blocked
    (at 0 (rows 0 false) ∷ (pdo 1 (place 0 0) (two 1 (Some 0) Bare (Some 1) Bare Bare)
    ∷ (at 2 (Flatten (place 1 0 ∷ (place 1 1 ∷ []))) ∷
    (at 3 (Flatten (place 1 1 ∷ (place 1 0 ∷ [])))
    ∷ (pdo 4 (place 0 0) (one 4 (Some 0) Bare Bare) ∷ [])))))
    (place 2 0 ∷ (place 3 0 ∷ (place 4 0 ∷ []))) [])
    ≡ blocked
    (at 0 (rows 0 false) ∷
    (pdo 1 (place 0 0) (two 1 (Some 0) Bare (Some 1) Bare (one 4 (Some 2) Bare Bare))
    ∷ (at 2 (Flatten (place 1 0 ∷ (place 1 1 ∷ []))) ∷
    (at 3 (Flatten (place 1 1 ∷ (place 1 0 ∷ [])))
    ∷ []))))
    (place 2 0 ∷ (place 3 0 ∷ (place 1 2 ∷ []))) []
unfolding joined_by hanging members
both_read = refl

-- The same, by each output in a Pdo of its own.
both_kids_parted : fused_by (cut_of (parted (blocked
    (at 0 (rows 0 false) ∷ (pdo 1 (place 0 0) (two 1 (Some 0) Bare (Some 1) Bare Bare)
    ∷ (pdo 2 (place 1 1) (one 2 (Some 0) Bare Bare) ∷
    (pdo 3 (place 1 0) (two 3 (Some 0) Bare (Some 1) Bare Bare)
    ∷ (pdo 4 (place 1 0) (one 4 (Some 0) Bare Bare) ∷ [])))))
    (place 2 0 ∷ (place 3 0 ∷ (place 3 1 ∷ (place 4 0 ∷ (place 1 1 ∷ []))))) [])))
    ≡ blocked
    (at 0 (rows 0 false) ∷ (pdo 1 (place 0 0)
    (two 1 None (two 3 (Some 0) Bare (Some 1) Bare (one 4 (Some 2) Bare Bare))
    (Some 3) (one 2 (Some 4) Bare Bare) Bare) ∷ []))
    (place 1 4 ∷ (place 1 0 ∷ (place 1 1 ∷ (place 1 2 ∷ (place 1 3 ∷ []))))) []
unfolding fused_by trees
both_kids_parted = refl

-- A SideInput reads one output beside an object: the output is kept, beside the kid on it, and no
-- step is fused with the SideInput.
beside_object : fused (blocked
    (at 0 (rows 0 false) ∷ (pdo 1 (place 0 0) (two 1 (Some 0) Bare (Some 1) Bare Bare)
    ∷ (pdo 2 (place 1 1) (one 2 (Some 0) Bare Bare) ∷ (at 3 (rows 1 true)
    ∷ (at 4 (Barrier (place 1 1 ∷ (place 3 0 ∷ [])) 4 true (SideInput 4))
    ∷ (pdo 5 (place 4 0) (one 5 (Some 0) Bare Bare)
    ∷ (at 6 (Barrier (place 3 0 ∷ []) 6 true (Operate 6)) ∷ [])))))))
    (place 1 0 ∷ (place 2 0 ∷ (place 5 0 ∷ (place 6 0 ∷ [])))) [])
    ≡ blocked
    (at 0 (rows 0 false) ∷ (pdo 1 (place 0 0)
    (two 1 (Some 0) Bare (Some 1) (one 2 (Some 2) Bare Bare) Bare)
    ∷ (at 3 (rows 1 true) ∷ (at 4 (Barrier (place 1 1 ∷ (place 3 0 ∷ [])) 4 true (SideInput 4))
    ∷ (pdo 5 (place 4 0) (one 5 (Some 0) Bare Bare)
    ∷ (at 6 (Barrier (place 3 0 ∷ []) 6 true (Operate 6)) ∷ []))))))
    (place 1 0 ∷ (place 1 2 ∷ (place 5 0 ∷ (place 6 0 ∷ [])))) []
unfolding joined_by hanging members
beside_object = refl
