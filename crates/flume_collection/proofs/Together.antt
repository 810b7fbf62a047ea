-- Calls on collections together give what they give on each, together.
use Rattle.std.proofs.Common.{◌≡◌, ℕ, List, [], ◌++◌, map, sym, ap, ◌∙◌}
use Rattle.std.specs.List.{flat_map}
use Rattle.std.proofs.lemmas.List.Folds.{flat_map-map}
use Rattle.flume_value.specs.declared.value.Value.{Value}
use Rattle.flume_value.specs.Bag.{put, bag_of}
use Rattle.flume_collection.specs.declared.trap.Trap.{Trap}
use Rattle.flume_collection.specs.Traps.{trap_le}
use Rattle.flume_collection.specs.Sets.{put_new, gather, set_of}
use Rattle.flume_collection.specs.Collection.{Collection, together}
use Rattle.flume_collection.specs.Calls.{Called, emissions, passed, trap_of}
use Rattle.flume_collection.proofs.Bagging.{Swaps, gather-append, gather-both, gather-alike, flat_map-flat_map, set-gathered}
use Rattle.flume_collection.proofs.Orders.{bags, sets, trap_order, one_bag, spread_bag, gather_bag}

pub same_collection : (b c : List Value) (t u : List Trap) → b ≡ c → t ≡ u
    → (let x : Collection = record { bag = b; traps = t } in
    let y : Collection = record { bag = c; traps = u } in x ≡ y)
same_collection b c t u e f = cc

-- what the members of collections together give
pub spread_together : {Y B : Type 0} (p : Y → B → B) → Swaps p
    → (f : Value → List Y) (cs : List Collection) (b : B)
    → gather p (flat_map f (together cs).bag) b
    ≡ gather p (flat_map (λ (c : Collection). flat_map f c.bag) cs) b
spread_together p s f cs b = spread_bag p s f (flat_map (λ (c : Collection). c.bag) cs) b
    ∙ ap (λ l. gather p l b) (flat_map-flat_map f (λ (c : Collection). c.bag) cs)

passed_bag : (n k : ℕ) (f : Value → Called) (cs : List Collection)
    → (passed n k f (together cs)).bag ≡ (together (map (passed n k f) cs)).bag
passed_bag n k f cs =
    let e : Value → List Value = λ x. emissions k (f x) in
    one_bag (flat_map e (together cs).bag) (flat_map (λ (c : Collection). c.bag)
    (map (passed n k f) cs))
    (spread_together put bags e cs []
    ∙ sym (gather-alike put (λ (c : Collection). bag_of (flat_map e c.bag))
    (λ (c : Collection). flat_map e c.bag) (λ c b. gather_bag put bags (flat_map e c.bag) b) cs
    [])
    ∙ sym (ap (λ l. gather put l [])
    (flat_map-map (λ (c : Collection). c.bag) (passed n k f) cs)))

passed_traps : (n k : ℕ) (f : Value → Called) (cs : List Collection)
    → (passed n k f (together cs)).traps ≡ (together (map (passed n k f) cs)).traps
passed_traps n k f cs =
    let t : Value → List Trap = λ x. trap_of n (f x) in
    let q : Trap → List Trap → List Trap = put_new trap_le in
    gather-append q (set_of trap_le (flat_map (λ (c : Collection). c.traps) cs))
    (flat_map t (together cs).bag) []
    ∙ set-gathered trap_le trap_order (flat_map (λ (c : Collection). c.traps) cs)
    (gather q (flat_map t (together cs).bag) [])
    ∙ ap (gather q (flat_map (λ (c : Collection). c.traps) cs)) (spread_together q sets t cs [])
    ∙ sym (gather-both q sets (λ (c : Collection). c.traps) (λ (c : Collection). flat_map t c.bag)
    cs [])
    ∙ sym (gather-alike q (λ (c : Collection). set_of trap_le (c.traps ++ flat_map t c.bag))
    (λ (c : Collection). c.traps ++ flat_map t c.bag)
    (λ c b. set-gathered trap_le trap_order (c.traps ++ flat_map t c.bag) b) cs [])
    ∙ sym (ap (λ l. gather q l [])
    (flat_map-map (λ (c : Collection). c.traps) (passed n k f) cs))

pub passed_together : (n k : ℕ) (f : Value → Called) (cs : List Collection)
    → passed n k f (together cs) ≡ together (map (passed n k f) cs)
passed_together n k f cs = same_collection _ _ _ _ (passed_bag n k f cs) (passed_traps n k f cs)
