-- The traps of the nodes of a script's graph are those of the script.
use Rattle.std.proofs.Common.{◌≡◌, ℕ, zero, suc, ◌+◌, ◌-◌, Bool, true, false, List, [], ◌∷◌, ◌++◌, map, Option, Some, None, refl, sym, ap, ◌∙◌, subst, add-zero, append-nil, ⊎_elim}
use Rattle.std.specs.List.{Contains, flat_map}
use Rattle.std.specs.Option.{option_and_then}
use Rattle.bag_groups.specs.Pairs.{value_of}
use Rattle.std.proofs.lemmas.List.Elements.{Contains-append_cases, Contains-append_left, Contains-append_right}
use Rattle.flume_collection.specs.Collection.{Collection, by_key, together}
use Rattle.flume_collection.specs.Traps.{trap_le, trap_set}
use Rattle.flume_collection.specs.declared.trap.Trap.{Trap}
use Rattle.flume_collection.proofs.Members.{not_in_none, same_set, set_members}
use Rattle.flume_collection.proofs.Orders.{trap_order}
use Rattle.combine_table.specs.declared.comb.Comb.TheVariants as by
use Rattle.exec_graph.specs.Forests.{Branch, Label}
use Rattle.exec_graph.specs.Meaning.{Meets, step_traps, through, total, traps}
use Rattle.exec_graph.specs.World.{World}
use Rattle.combine_table.specs.declared.comb.Comb.{Comb}
use Rattle.exec_graph.specs.Objects.{act_result, none_of, or_of_nothing, only, unless_behind}
use Rattle.exec_graph.specs.declared.graph.Act.TheVariants.{SideInput, Operate, Singleton}
use Rattle.exec_graph.specs.declared.graph.Entry.{Entry}
use Rattle.exec_graph.specs.declared.graph.Place.{Place}
use Rattle.exec_graph.specs.declared.step.Does.TheVariants as does
use Rattle.graph_build.specs.Calls.{emitted_at, needed_from, next_if, other_names}
use Rattle.graph_build.specs.Nodes.{before_last, call_branch, first_of, made_nodes}
use Rattle.graph_build.specs.of_script_program.declared.made.Made.{Made}
use Rattle.graph_build.specs.of_script_program.declared.made.Made.TheVariants as made
use Rattle.graph_build.specs.of_script_program.Script.{Script}
use Rattle.direct_meaning.specs.Direct.{made_at, traps_behind}
use Rattle.build_law.proofs.MadeKinds.{IsOther}
use Rattle.build_law.proofs.Outputs.{buds, given_to}
use Rattle.build_law.proofs.Passing.{call_label, only_label}

-- ---- parts

-- all traps of the first list are in the other
abbrev pub AreIn : List Trap → List Trap → Type 0
AreIn xs ys = (t : Trap) → Contains xs t → Contains ys t

none_in : (ys : List Trap) → AreIn [] ys
none_in ys t h = absurd (not_in_none t h)

pub same_in : {xs ys : List Trap} → xs ≡ ys → AreIn xs ys
same_in e t h = subst (λ zs. Contains zs t) e h

both_in : (xs ys zs : List Trap) → AreIn xs zs → AreIn ys zs → AreIn (xs ++ ys) zs
both_in xs ys zs h k t is = ⊎_elim (h t) (k t) (Contains-append_cases xs ys t is)

pub then_in : (xs ys zs : List Trap) → AreIn xs ys → AreIn ys zs → AreIn xs zs
then_in xs ys zs h k t is = k t (h t is)

-- what is behind a step's members is behind what it gives
through_in : (w : World) (l : Label) (c : Collection) → AreIn c.traps (through w l c).traps
through_in w l c t is =
    (set_members trap_le trap_order _ t).1 (Contains-append_left c.traps _ t is)

-- what is behind pairs is behind the value of the only pair
one_in : (ts : List Trap) (none some : Collection) → AreIn ts none.traps
    → AreIn ts (unless_behind ts none some).traps
one_in [] none some h = none_in some.traps
one_in (t ∷ ts) none some h = h

value_in : (w : World) (o : ℕ) (k : Comb) (c : Collection)
    → AreIn c.traps (act_result w o (Singleton k) (c ∷ [])).traps
unfolding act_result
value_in w o k c =
    one_in c.traps (none_of (c ∷ []))
    (or_of_nothing o k (option_and_then value_of (only c.bag)))
    (λ t is. (set_members trap_le trap_order (c.traps ++ []) t).1
    (Contains-append_left c.traps [] t is))

-- the list of one step's traps
step_list : (xs zs : List Trap) → AreIn xs zs → AreIn (xs ++ []) zs
step_list xs zs h = both_in xs [] zs h (none_in zs)

-- as many in one list as in the other
pub record AreSame (xs ys : List Trap) : Type 0 where
  pub from : AreIn xs ys
  pub into : AreIn ys xs

module _ (script : Script) (w : World) (m : Place → Collection) (gives : ℕ → Place) where
  abbrev pub trapped : List Entry → List Trap
  trapped es = flat_map (λ e. traps w m e.node) es

  -- as many traps behind the last node of a collection as in all its nodes
  pub record SameTraps (es : List Entry) (d : Collection) : Type 0 where
    pub from : AreIn (trapped es) d.traps
    pub into : AreIn d.traps (trapped es)

  same_list : (es : List Entry) (d : Collection) → trapped es ≡ d.traps → SameTraps es d
  same_list es d e = record { from = same_in e; into = same_in (sym e) }

  module _ (origin source n : ℕ) where
    at_start : {d : Collection} → m (first_of (n + 0)) ≡ d → m (first_of n) ≡ d
    at_start {d} h = subst (λ k. m (first_of k) ≡ d) (add-zero n) h

    one_step_traps : (xs : List Trap) (d : Collection) → xs ≡ d.traps
        → (xs ++ []) ++ [] ≡ d.traps
    one_step_traps xs d e = append-nil (xs ++ []) ∙ append-nil xs ∙ e

    -- the traps behind a node are those behind the next one
    abbrev Behind : Place → Collection → Type 0
    Behind c d = AreIn (m c).traps d.traps

    step_behind : (k : ℕ) (l : Label) (c : Place) (d : Collection)
        → m (first_of k) ≡ through w l (m c) → Behind (first_of k) d → Behind c d
    step_behind k l c d holds rest =
        then_in (m c).traps (through w l (m c)).traps d.traps (through_in w l (m c))
        (then_in (through w l (m c)).traps (m (first_of k)).traps d.traps
        (same_in (ap (λ (x : Collection). x.traps) (sym holds))) rest)

    group_behind : (k : ℕ) (c : Place) (d : Collection) → m (first_of k) ≡ by_key (m c)
        → Behind (first_of k) d → Behind c d
    group_behind k c d holds rest =
        then_in (m c).traps (m (first_of k)).traps d.traps
        (same_in (ap (λ (x : Collection). x.traps) (sym holds))) rest

    -- what a step gives is what its node gives
    given_in : (k : ℕ) (c d : Collection) → m (first_of k) ≡ c → Behind (first_of k) d
        → AreIn c.traps d.traps
    given_in k c d holds rest =
        then_in c.traps (m (first_of k)).traps d.traps
        (same_in (ap (λ (x : Collection). x.traps) (sym holds))) rest

    into_behind : (xs ys zs : List Trap) → AreIn zs ys → AreIn zs (xs ++ ys)
    into_behind xs ys zs h t is = Contains-append_right xs ys t (h t is)

    last_traps : (k : ℕ) (c d : Collection) → m (first_of k) ≡ c → m (first_of k) ≡ d
        → c.traps ≡ d.traps
    last_traps k c d holds is = ap (λ (x : Collection). x.traps) (sym holds ∙ is)

    -- the last step of a collection
    record IsLast (l : Label) (c : Place) (d : Collection) : Type 0 where
      pub behind : Behind c d
      pub same : ((through w l (m c)).traps ++ []) ++ [] ≡ d.traps

    last_step : (k : ℕ) (l : Label) (c : Place) (d : Collection)
        → m (first_of k) ≡ through w l (m c) → m (first_of k) ≡ d → IsLast l c d
    last_step k l c d holds is = record {
      behind = step_behind k l c d holds (same_in (ap (λ (x : Collection). x.traps) is));
      same =
          one_step_traps (through w l (m c)).traps d (last_traps k (through w l (m c)) d holds is);
    }

    -- two steps with groups between them, and what stands behind
    two_steps : (one two : Collection) (rest : List Trap) (d : Collection)
        → AreIn one.traps d.traps → Behind (first_of n) d → AreIn two.traps d.traps
        → rest ≡ d.traps
        → AreSame ((one.traps ++ []) ++ ((m (first_of n)).traps ++ ((two.traps ++ []) ++ rest)))
        d.traps
    two_steps one two rest d first group second same =
        let groups : List Trap = (m (first_of n)).traps in
        record {
          from = both_in (one.traps ++ []) (groups ++ ((two.traps ++ []) ++ rest)) d.traps
              (step_list one.traps d.traps first)
              (both_in groups ((two.traps ++ []) ++ rest) d.traps group
              (both_in (two.traps ++ []) rest d.traps (step_list two.traps d.traps second)
              (same_in same)));
          into = into_behind (one.traps ++ []) (groups ++ ((two.traps ++ []) ++ rest)) d.traps
              (into_behind groups ((two.traps ++ []) ++ rest) d.traps
              (into_behind (two.traps ++ []) rest d.traps (same_in (sym same))));
        }

    count_traps : (input : ℕ) (d : Collection)
        → Meets w (made_nodes script gives origin source n (made.Count input)) m
        → m (first_of (n + 2)) ≡ d
        → SameTraps (made_nodes script gives origin source n (made.Count input)) d
    count_traps input d h is =
        let one : Collection = through w (only_label origin false does.Pair) (m (gives input)) in
        let sum : Label = only_label origin true (does.Combine by.Sum) in
        let last : Collection = through w sum (m (first_of (n + 1))) in
        let end = last_step (n + 2) sum (first_of (n + 1)) d h.1.1.0.0 is in
        let first : Behind (first_of n) d =
        group_behind (n + 1) (first_of n) d h.1.0 end.behind in
        record {
          from = both_in (one.traps ++ []) ((m (first_of n)).traps ++ ((last.traps ++ []) ++ []))
              d.traps (step_list one.traps d.traps (given_in n one d h.0.0 first))
              (both_in (m (first_of n)).traps ((last.traps ++ []) ++ []) d.traps first
              (same_in end.same));
          into = into_behind (one.traps ++ [])
              ((m (first_of n)).traps ++ ((last.traps ++ []) ++ [])) d.traps
              (into_behind (m (first_of n)).traps ((last.traps ++ []) ++ []) d.traps
              (same_in (sym end.same)));
        }

    top_traps : (many input : ℕ) (d : Collection)
        → Meets w (made_nodes script gives origin source n (made.Top many input)) m
        → m (first_of (n + 3)) ≡ d
        → SameTraps (made_nodes script gives origin source n (made.Top many input)) d
    top_traps many input d h is =
        let one : Collection = through w (only_label origin false does.Solo) (m (gives input)) in
        let great : Label = only_label origin false (does.Combine (by.Top many)) in
        let most : Collection = through w great (m (first_of (n + 1))) in
        let spread : Label = only_label origin true does.Spread in
        let last : Collection = through w spread (m (first_of (n + 2))) in
        let end = last_step (n + 3) spread (first_of (n + 2)) d h.1.1.1.0.0 is in
        let second : Behind (first_of (n + 1)) d =
        step_behind (n + 2) great (first_of (n + 1)) d h.1.1.0.0 end.behind in
        let first : Behind (first_of n) d = group_behind (n + 1) (first_of n) d h.1.0 second in
        let all = two_steps one most ((last.traps ++ []) ++ []) d (given_in n one d h.0.0 first)
        first (given_in (n + 2) most d h.1.1.0.0 end.behind) end.same in
        record { from = all.from; into = all.into }

    whole_traps : (input : ℕ) (k : Comb) (d : Collection)
        → Meets w (made_nodes script gives origin source n (made.CombineAll input k)) m
        → m (first_of (n + 3)) ≡ d
        → SameTraps (made_nodes script gives origin source n (made.CombineAll input k)) d
    whole_traps input k d h is =
        let one : Collection = through w (only_label origin false does.Solo) (m (gives input)) in
        let combine : Label = only_label origin false (does.Combine k) in
        let whole : Collection = through w combine (m (first_of (n + 1))) in
        let last : Collection = act_result w origin (Singleton k) (m (first_of (n + 2)) ∷ []) in
        let end : Behind (first_of (n + 3)) d = same_in (ap (λ (x : Collection). x.traps) is) in
        let third : Behind (first_of (n + 2)) d =
        then_in (m (first_of (n + 2))).traps last.traps d.traps
        (value_in w origin k (m (first_of (n + 2)))) (given_in (n + 3) last d h.1.1.1.0 end) in
        let second : Behind (first_of (n + 1)) d =
        step_behind (n + 2) combine (first_of (n + 1)) d h.1.1.0.0 third in
        let first : Behind (first_of n) d = group_behind (n + 1) (first_of n) d h.1.0 second in
        let same : last.traps ++ [] ≡ d.traps =
        append-nil last.traps ∙ last_traps (n + 3) last d h.1.1.1.0 is in
        let all = two_steps one whole (last.traps ++ []) d (given_in n one d h.0.0 first) first
        (given_in (n + 2) whole d h.1.1.0.0 third) same in
        record { from = all.from; into = all.into }

    -- the traps behind two collections together
    left_in : (a b : List Trap) → AreIn a (trap_set (a ++ (b ++ [])))
    left_in a b t is =
        (set_members trap_le trap_order (a ++ (b ++ [])) t).1
        (Contains-append_left a (b ++ []) t is)

    right_in : (a b : List Trap) → AreIn b (trap_set (a ++ (b ++ [])))
    right_in a b t is =
        (set_members trap_le trap_order (a ++ (b ++ [])) t).1
        (Contains-append_right a (b ++ []) t (Contains-append_left b [] t is))

    join_traps : (left right : ℕ) (d : Collection)
        → Meets w (made_nodes script gives origin source n (made.Join left right)) m
        → m (first_of (n + 4)) ≡ d
        → SameTraps (made_nodes script gives origin source n (made.Join left right)) d
    join_traps left right d h is =
        let one : Collection = through w (only_label origin false does.TagLeft) (m (gives left))
        in
        let other : Collection =
        through w (only_label origin false does.TagRight) (m (gives right)) in
        let both : Collection = together (m (first_of n) ∷ m (first_of (n + 1)) ∷ []) in
        let split : Label = only_label origin true does.Split in
        let last : Collection = through w split (m (first_of (n + 3))) in
        let end = last_step (n + 4) split (first_of (n + 3)) d h.1.1.1.1.0.0 is in
        let third : Behind (first_of (n + 2)) d =
        group_behind (n + 3) (first_of (n + 2)) d h.1.1.1.0 end.behind in
        let all : AreIn both.traps d.traps = given_in (n + 2) both d h.1.1.0 third in
        let a : List Trap = (m (first_of n)).traps in
        let b : List Trap = (m (first_of (n + 1))).traps in
        let first : Behind (first_of n) d = then_in a both.traps d.traps (left_in a b) all in
        let second : Behind (first_of (n + 1)) d =
        then_in b both.traps d.traps (right_in a b) all in
        let rest : List Trap = (last.traps ++ []) ++ [] in
        let group : List Trap = (m (first_of (n + 2))).traps in
        record {
          from = both_in (one.traps ++ [])
              ((other.traps ++ []) ++ (both.traps ++ (group ++ rest))) d.traps
              (step_list one.traps d.traps (given_in n one d h.0.0 first))
              (both_in (other.traps ++ []) (both.traps ++ (group ++ rest)) d.traps
              (step_list other.traps d.traps (given_in (n + 1) other d h.1.0.0 second))
              (both_in both.traps (group ++ rest) d.traps all
              (both_in group rest d.traps third (same_in end.same))));
          into = into_behind (one.traps ++ [])
              ((other.traps ++ []) ++ (both.traps ++ (group ++ rest))) d.traps
              (into_behind (other.traps ++ []) (both.traps ++ (group ++ rest)) d.traps
              (into_behind both.traps (group ++ rest) d.traps
              (into_behind group rest d.traps (same_in (sym end.same)))));
        }

    -- the traps of a call are those behind each of its names
    all_alike : (b : Branch) (v : Collection) (k next : ℕ) (needed : List Bool)
        → AreIn (total w (step_traps w) v (buds b k next needed)) (given_to w b v 0).traps
    all_alike b v k next [] = none_in _
    all_alike b v k next (x ∷ xs) =
        both_in (given_to w b v 0).traps
        (total w (step_traps w) v (buds b (suc k) (next_if x next) xs)) (given_to w b v 0).traps
        (λ t is. is) (all_alike b v (suc k) (next_if x next) xs)

    pub call_traps : (input f o k : ℕ) (c d : Collection) → m (gives input) ≡ c
        → through w (call_label (origin - o) f k) c ≡ d
        → SameTraps (made_nodes script gives origin source n (made.Do input f o)) d
    call_traps input f o k c d read is =
        let first : Bool = emitted_at script (origin - o) in
        let others : List Bool = needed_from script (suc (origin - o)) (other_names script f) in
        let b = call_branch (origin - o) f first others in
        let v = m (gives input) in
        let same : (given_to w b v 0).traps ≡ d.traps =
        (λ i. (through w (call_label (origin - o) f 0) (read i)).traps)
        ∙ ap (λ (x : Collection). x.traps) is in
        let rest = total w (step_traps w) v (buds b 1 (next_if first 0) others) in
        record {
          from = step_list ((given_to w b v 0).traps ++ rest) d.traps
              (both_in (given_to w b v 0).traps rest d.traps (same_in same)
              (then_in rest (given_to w b v 0).traps d.traps
              (all_alike b v 1 (next_if first 0) others) (same_in same)));
          into = λ t at.
              Contains-append_left ((given_to w b v 0).traps ++ rest) [] t
              (Contains-append_left (given_to w b v 0).traps rest t (same_in (sym same) t at));
        }

    pub block_traps : (made : Made) (d : Collection) → IsOther made
        → Meets w (made_nodes script gives origin source n made) m
        → m (first_of (n + before_last made)) ≡ d
        → SameTraps (made_nodes script gives origin source n made) d
    block_traps (made.Input file columns) d apart h is =
        same_list _ d (ap (λ (x : Collection). x.traps) (sym h.0 ∙ at_start is))
    block_traps (made.Saved is_object call) d apart h is =
        same_list _ d (ap (λ (x : Collection). x.traps) (sym h.0 ∙ at_start is))
    block_traps (made.Do input f output) d apart h is = absurd apart
    block_traps (made.Group input) d apart h is =
        same_list _ d
        (append-nil (m (gives input)).traps
        ∙ ap (λ (x : Collection). x.traps) (sym h.0 ∙ at_start is))
    block_traps (made.Combine input k) d apart h is =
        same_list _ d (one_step_traps _ d (ap (λ (x : Collection). x.traps)
        (sym h.0.0 ∙ at_start is)))
    block_traps (made.Flatten inputs) d apart h is =
        same_list _ d
        (append-nil (together (map m (map gives inputs))).traps
        ∙ ap (λ (x : Collection). x.traps) (sym h.0 ∙ at_start is))
    block_traps (made.Count input) d apart h is = count_traps input d h is
    block_traps (made.Join left right) d apart h is = join_traps left right d h is
    block_traps (made.Top many input) d apart h is = top_traps many input d h is
    block_traps (made.CombineAll input k) d apart h is = whole_traps input k d h is
    block_traps (made.Operate objects f) d apart h is =
        same_list _ d
        (append-nil (act_result w origin (Operate f) (map m (map gives objects))).traps
        ∙ ap (λ (x : Collection). x.traps) (sym h.0 ∙ at_start is))
    block_traps (made.DoWith input f object) d apart h is =
        same_list _ d
        (append-nil
        (act_result w origin (SideInput f) (m (gives input) ∷ m (gives object) ∷ [])).traps
        ∙ ap (λ (x : Collection). x.traps) (sym h.0 ∙ at_start is))

-- all traps behind what is made
pub made_traps : (made : List (Option Collection)) (zs : List Trap)
    → ((j : ℕ) (c : Collection) → made_at made j ≡ Some c → AreIn c.traps zs)
    → AreIn (flat_map traps_behind made) zs
made_traps [] zs h = none_in zs
made_traps (None ∷ made) zs h = made_traps made zs (λ j c is. h (suc j) c is)
made_traps (Some c ∷ made) zs h =
    both_in c.traps (flat_map traps_behind made) zs (h 0 c refl)
    (made_traps made zs (λ j d is. h (suc j) d is))

pub traps_made : (made : List (Option Collection)) (j : ℕ) (c : Collection)
    → made_at made j ≡ Some c → AreIn c.traps (flat_map traps_behind made)
traps_made [] j c h = cc
traps_made (None ∷ made) zero c h = cc
traps_made (Some d ∷ made) zero c h =
    let same : d ≡ c = cc in
    λ t is. Contains-append_left d.traps (flat_map traps_behind made) t
    (same_in (ap (λ (x : Collection). x.traps) (sym same)) t is)
traps_made (None ∷ made) (suc j) c h = traps_made made j c h
traps_made (Some d ∷ made) (suc j) c h =
    λ t is. Contains-append_right d.traps (flat_map traps_behind made) t
    (traps_made made j c h t is)

pub same_traps : (xs ys : List Trap) → AreSame xs ys → trap_set xs ≡ trap_set ys
same_traps xs ys h = same_set trap_le trap_order xs ys (λ t. (h.from t, h.into t))
