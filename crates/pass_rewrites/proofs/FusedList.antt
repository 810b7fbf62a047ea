-- Fusing as a list of rewrites: siblings, and then kids, each under the lesser number.
use Rattle.std.proofs.Common.{◌≡◌, ℕ, ◌<◌, ◌≤◌, List, [], ◌∷◌, ◌++◌, map, true, false, refl, sym, ap, ◌∙◌, subst, arith}
use Rattle.std.specs.List.{AllByRecursion as Each}
use Rattle.std.proofs.lemmas.Bool.{false≢true}
use Rattle.exec_graph.specs.Meaning.{node_at}
use Rattle.exec_graph.specs.Wellformed.{IsGraphOk}
use Rattle.exec_graph.specs.declared.graph.Blocked.{Blocked}
use Rattle.exec_graph.specs.declared.graph.Graph.{Graph}
use Rattle.exec_graph.proofs.Soundness.{IsSound-ok}
use Rattle.fuse_chain.specs.Cuts.{siblings_of}
use Rattle.fuse_chain.specs.Numbers.{KidsToLeast, after_kids}
use Rattle.fuse_chain.specs.Rewrites.{BySiblings, FusesTo as Fuses, Fusion, is_sibling, other_of}
use Rattle.fuse_chain.specs.Rewrites as fusion
use Rattle.fuse_chain.proofs.Keeping.{lead_good}
use Rattle.fuse_chain.proofs.LeastKids.{kids_to_least}
use Rattle.fuse_chain.proofs.StepSiblings.{steps_lead}
use Rattle.fusion_blocks.specs.Blocks.{unmarked}
use Rattle.graph_rewrites.specs.Replays.{Leads, rewrite_group}
use Rattle.graph_rewrites.specs.declared.rewrite.Rewrite.{Rewrite}
use Rattle.fuse_chain.specs.of_pardo_fuse.Fusing.{fused, fused_by_parents, least_of}
use Rattle.fuse_chain.specs.of_pardo_fuse.Parting.{parted}
use Rattle.fuse_chain.specs.of_pardo_fuse.Readers.{cut_of}
use Rattle.fuse_chain.specs.of_pardo_fuse.Renumbering.{renumbered_graph}
use Rattle.fuse_chain.specs.of_pardo_fuse.SingleFusing.{fused_by}
use Rattle.fuse_chain.specs.of_pardo_fuse.Wellformed.{IsFusible}
use Rattle.fuse_chain.proofs.of_pardo_fuse.Fused.{IsBlockedOk-parents, same_numbers}
use Rattle.pass_rewrites.specs.Passes.{ByFusing, as_rewrite, keeper_of, present_fusions}
use Rattle.pass_rewrites.proofs.Fusing.{fusions_all, sibling_can, sibling_same}
use Rattle.pass_rewrites.proofs.LesserKids.{kids_renumbered, numbers_agree}
use Rattle.pass_rewrites.proofs.Lists.{leads_both}

siblings_leading : (rs : List Fusion) (g h : Graph) → Each (λ r. is_sibling r ≡ true) rs
    → Fuses rs g h → Leads 2 (map as_rewrite rs) (unmarked g) (unmarked h)
siblings_leading [] g h all l = ap unmarked l
siblings_leading (fusion.Kid p k q ∷ rs) g h all l = absurd (false≢true all.0)
siblings_leading (fusion.Sibling p q ∷ rs) g h all l =
    let rest : Leads 2 (map as_rewrite rs) (unmarked l.0) (unmarked h) =
    siblings_leading rs l.0 h all.1 l.2 in (
      (let at : 2 ≤ 2 = omega arith in at, (l.1.less, sibling_can p q g l.0 l.1)),
      subst (λ (x : Graph). Leads 2 (map as_rewrite rs) (unmarked x) (unmarked h))
          (sym (sibling_same p q g l.0 l.1)) rest,
    )

siblings_lesser : (rs : List Fusion) (g h : Graph) → Each (λ r. is_sibling r ≡ true) rs
    → Fuses rs g h → Each (λ r. keeper_of r < other_of r) rs
siblings_lesser [] g h all l = tt
siblings_lesser (fusion.Kid p k q ∷ rs) g h all l = absurd (false≢true all.0)
siblings_lesser (fusion.Sibling p q ∷ rs) g h all l =
    (l.1.less, siblings_lesser rs l.0 h all.1 l.2)

map_both : (rs ss : List Fusion)
    → map as_rewrite (rs ++ ss) ≡ map as_rewrite rs ++ map as_rewrite ss
map_both [] ss = refl
map_both (r ∷ rs) ss = ap (λ (xs : List Rewrite). as_rewrite r ∷ xs) (map_both rs ss)

pub fusing_list : (b : Blocked) → IsFusible b → ByFusing b.graph (fused b).graph
fusing_list b fu =
    let middle : Graph = (fused_by (siblings_of (parted b))).graph in
    let last : Graph = (fused_by_parents b).graph in
    let s : BySiblings b.graph middle = steps_lead b fu in
    let k : KidsToLeast b = kids_to_least b fu in
    let ok : IsGraphOk middle = (lead_good s.rewrites b.graph middle fu.ok.ok s.leads).formed in
    let first : List Rewrite = map as_rewrite s.rewrites in
    let behind : List Rewrite = map as_rewrite (present_fusions (λ n. n) k.kids.rewrites) in
    let begun : renumbered_graph (λ n. n) middle ≡ middle =
    ap (λ (x : Blocked). x.graph)
    (same_numbers (unmarked middle) ok.founded.ascends (λ n. n) (λ n. refl)) in
    let ended : renumbered_graph (after_kids k.kids.rewrites (λ n. n)) last ≡ (fused b).graph =
    numbers_agree last (IsSound-ok last (IsBlockedOk-parents b fu).ok)
    (after_kids k.kids.rewrites (λ n. n)) (least_of (cut_of b)) k.numbers in
    let kids : Leads 2 behind (unmarked middle) (unmarked (fused b).graph) =
    subst (λ (x : Graph). Leads 2 behind (unmarked x) (unmarked (fused b).graph)) begun
    (subst (λ (x : Graph). Leads 2 behind (unmarked (renumbered_graph (λ n. n) middle))
    (unmarked x)) ended
    (kids_renumbered k.kids.rewrites middle last (λ n. n) (λ m i e. e) ok k.kids.all
    k.kids.leads)) in
    record {
      siblings = s.rewrites;
      formers = k.kids.rewrites;
      are_siblings = s.all;
      are_kids = k.kids.all;
      siblings_ascend = s.order;
      kids_ascend = k.kids.order;
      lesser = siblings_lesser s.rewrites b.graph middle s.all s.leads;
      leads = subst (λ (rs : List Rewrite). Leads 2 rs (unmarked b.graph)
          (unmarked (fused b).graph))
          (sym (map_both s.rewrites (present_fusions (λ n. n) k.kids.rewrites)))
          (leads_both 2 2 first behind (unmarked b.graph) (unmarked middle)
          (unmarked (fused b).graph) (fusions_all s.rewrites) (omega arith)
          (siblings_leading s.rewrites b.graph middle s.all s.leads) kids);
    }
