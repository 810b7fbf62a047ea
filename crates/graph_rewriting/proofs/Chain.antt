-- One rewrite more.
use Rattle.std.proofs.Common.{◌≡◌, ℕ, ◌+◌, ◌<◌, ◌≤◌, List, [], ◌∷◌, ◌++◌, take, drop, length, get_or, Option, Some, None, refl, sym, ap, ◌∙◌, subst, arith}
use Rattle.std.proofs.lemmas.List.{drop_more, length-take, take-append-drop, take_all, take_more}
use Rattle.exec_graph.specs.Wellformed.{IsGraphOk}
use Rattle.exec_graph.specs.declared.graph.Blocked.{Blocked}
use Rattle.exec_graph.specs.declared.graph.Graph.{Graph}
use Rattle.fusion_blocks.specs.Blocks.{unmarked}
use Rattle.graph_rewrites.specs.Replays.{CanFollow, Leads, StopsAt, rewrite_group}
use Rattle.graph_rewrites.specs.Rewrites.{applied}
use Rattle.graph_rewrites.specs.declared.rewrite.Rewrite.{Rewrite}
use Rattle.graph_rewriting.specs.Applied.{IsApplied}
use Rattle.graph_rewriting.specs.Replayed.{Follows}
use Rattle.graph_rewrites.proofs.Replaying.{last_group, last_more, leads_more, leads_ok, stops_here}

-- the rewrites before a place lead there, behind that group
pub record IsLed (g : Graph) (rs : List Rewrite) (i group : ℕ) (now : Blocked) : Type 0 where
  pub leads : Leads 0 (take i rs) (unmarked g) now
  pub last : group ≡ last_group 0 (take i rs)

pub follows_some : (group : ℕ) (b d : Blocked) (r : Rewrite) (o : Option Blocked)
    → Follows group b r o → o ≡ Some d → CanFollow group b r × (d ≡ applied b r)
follows_some group b d r o f e = subst (λ (x : Option Blocked). Follows group b r x) e f

pub follows_none : (group : ℕ) (b : Blocked) (r : Rewrite) (o : Option Blocked)
    → Follows group b r o → o ≡ None → CanFollow group b r → ⊥
follows_none group b r o f e = subst (λ (x : Option Blocked). Follows group b r x) e f

module _ (g : Graph) (rs : List Rewrite) (i group : ℕ) (now : Blocked) (z : Rewrite)
    (led : IsLed g rs i group now) (lt : i < length rs) where
  pub led_more : (next : ℕ) (d : Blocked)
      → CanFollow group now (get_or rs i z) × (d ≡ applied now (get_or rs i z))
      → next ≡ rewrite_group (get_or rs i z) → IsLed g rs (i + 1) next d
  led_more next d can f =
      let r : Rewrite = get_or rs i z in
      let here : take (i + 1) rs ≡ take i rs ++ r ∷ [] = take_more rs i z lt in
      record {
        leads = subst (λ (l : List Rewrite). Leads 0 l (unmarked g) d) (sym here)
            (subst (λ (b : Blocked). Leads 0 (take i rs ++ r ∷ []) (unmarked g) b) (sym can.1)
            (leads_more 0 (take i rs) r (unmarked g) now led.leads
            (subst (λ (k : ℕ). CanFollow k now r) led.last can.0)));
        last = f ∙ sym (last_more 0 (take i rs) r) ∙ ap (λ l. last_group 0 l) (sym here);
      }

  pub led_stops : (step : ℕ) → (CanFollow group now (get_or rs i z) → ⊥) → step ≡ i + 1
      → StopsAt 0 rs (unmarked g) step
  led_stops step no_way e =
      let r : Rewrite = get_or rs i z in
      let rest : List Rewrite = drop (i + 1) rs in
      let whole : take i rs ++ r ∷ rest ≡ rs =
      ap (λ (l : List Rewrite). take i rs ++ l) (sym (drop_more rs i z lt))
      ∙ take-append-drop i rs in
      let many : length (take i rs) ≡ i = omega (arith, length-take {A = Rewrite}) in
      let count : length (take i rs) + 1 ≡ step = ap (λ (n : ℕ). n + 1) many ∙ sym e in
      subst (λ (l : List Rewrite). StopsAt 0 l (unmarked g) step) whole
      (subst (λ (n : ℕ). StopsAt 0 (take i rs ++ r ∷ rest) (unmarked g) n) count
      (stops_here 0 (take i rs) r rest (unmarked g) now led.leads
      (λ can. no_way (subst (λ (k : ℕ). CanFollow k now r) (sym led.last) can))))

pub led_ok : (g : Graph) (rs : List Rewrite) (i group : ℕ) (now : Blocked) → IsGraphOk g
    → IsLed g rs i group now → IsGraphOk now.graph
led_ok g rs i group now ok led = (leads_ok (take i rs) g now ok led.leads).ok

pub led_none : (g : Graph) (rs : List Rewrite) (now : Blocked) → unmarked g ≡ now
    → IsLed g rs 0 0 now
led_none g rs now e = record { leads = e; last = refl }

pub led_all : (g : Graph) (rs : List Rewrite) (i group : ℕ) (now : Blocked)
    → IsLed g rs i group now → length rs ≤ i → Leads 0 rs (unmarked g) now
led_all g rs i group now led past =
    subst (λ (l : List Rewrite). Leads 0 l (unmarked g) now) (take_all i rs past) led.leads

-- a rewrite of no earlier group
pub followed : (group : ℕ) (b : Blocked) (r : Rewrite) (o : Option Blocked)
    → group ≤ rewrite_group r → IsApplied b r o → Follows group b r o
followed group b r None le h = λ can. h can.1
followed group b r (Some d) le h = ((le, h.0), h.1)
