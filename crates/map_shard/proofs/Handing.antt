-- Lists, one for each take, that are handed to the channels in order.
use Rattle.std.proofs.Common.{◌≡◌, ◌<◌, ◌+◌, ℕ, List, [], ◌∷◌, ◌++◌, map, length, append_assoc, drop, get_or, refl, sym, ap, ◌∙◌, subst}
use Rattle.std.specs.List.{flat_map, slice_get}
use Rattle.flume_value.specs.declared.value.Value.{Value}
use Rattle.flume_collection.specs.Calls.{or_none}
use Rattle.exec_plan.specs.declared.plan.Take.{Take}
use Rattle.exec_plan.specs.declared.plan.OutChannel.{OutChannel}
use Rattle.map_shard.specs.declared.filling.Filling.{Filling}
use Rattle.map_shard.specs.inner.Fillings.{IsFilled, IsFilling}
use Rattle.map_shard.specs.inner.Sending.{CanSend, IsSendable, takes_joined, left, taken, taken_by, takes_of}
use Rattle.map_shard.proofs.Later.{drop_at}

joined_next : (k : Take) (ks : List Take) (lists : List (List Value))
    → takes_joined (k ∷ ks) lists ≡ or_none (slice_get lists 0) ++ takes_joined ks (drop 1 lists)
joined_next k ks lists = refl

joined_map : (f : Take → List Value) (ks rest : List Take)
    → takes_joined ks (map f (ks ++ rest)) ≡ flat_map f ks
joined_map f [] rest = refl
joined_map f (k ∷ ks) rest = ap (λ l. f k ++ l) (joined_map f ks rest)

left_map : (f : Take → List Value) (ks rest : List Take)
    → left ks (map f (ks ++ rest)) ≡ map f rest
left_map f [] rest = refl
left_map f (k ∷ ks) rest = left_map f ks rest

-- ---- one list after another
no_take : Take
no_take = record { channel = 0; out = 0 }

pub joined_on : (takes : List Take) (i : ℕ) (values more : List Value)
    (lists next : List (List Value)) (whole x : List Value) → i < length takes
    → x ≡ or_none (slice_get lists 0) → next ≡ drop 1 lists → more ≡ values ++ x
    → values ++ takes_joined (drop i takes) lists ≡ whole
    → more ++ takes_joined (drop (i + 1) takes) next ≡ whole
joined_on takes i values more lists next whole x h first rest push goes =
    (λ j. push j ++ takes_joined (drop (i + 1) takes) (rest j))
    ∙ append_assoc values x (takes_joined (drop (i + 1) takes) (drop 1 lists))
    ∙ ap (λ y. values ++ (y ++ takes_joined (drop (i + 1) takes) (drop 1 lists))) first
    ∙ ap (λ l. values ++ l) (sym (joined_next (get_or takes i no_take) (drop (i + 1) takes) lists))
    ∙ ap (λ ks. values ++ takes_joined ks lists) (sym (drop_at takes i no_take h)) ∙ goes

pub left_on : (takes : List Take) (i : ℕ) (lists next whole : List (List Value))
    → i < length takes → next ≡ drop 1 lists → left (drop i takes) lists ≡ whole
    → left (drop (i + 1) takes) next ≡ whole
left_on takes i lists next whole h rest goes =
    ap (left (drop (i + 1) takes)) rest
    ∙ ap (λ ks. left ks lists) (sym (drop_at takes i no_take h)) ∙ goes

-- ---- one channel after another
module _ (m : ℕ) (lists : List (List Value)) (channels : List OutChannel) (i : ℕ) (c : OutChannel)
    (given : List (List Value)) (h : i < length channels) (is : c ≡ get_or channels i c)
    (so_far : given ≡ map (taken_by m lists) (flat_map takes_of (drop i channels))) where
  abbrev rest : List Take
  rest = flat_map takes_of (drop (i + 1) channels)

  next_is : given ≡ map (taken_by m lists) (takes_of c ++ rest)
  next_is =
      so_far
      ∙ ap (λ cs. map (taken_by m lists) (flat_map takes_of cs))
      (drop_at channels i c h ∙ ap (λ d. d ∷ drop (i + 1) channels) (sym is))

  here : takes_joined (takes_of c) given ≡ taken m lists (takes_of c)
  here = ap (takes_joined (takes_of c)) next_is ∙ joined_map (taken_by m lists) (takes_of c) rest

  pub sendable : CanSend m lists c → IsSendable c (takes_joined (takes_of c) given)
  sendable can = subst (IsSendable c) (sym here) can

  pub filled_here : (p : ℕ) (before : List Take → List Value) (f : Filling)
      → IsFilling p c f (before (takes_of c) ++ takes_joined (takes_of c) given)
      → IsFilled p (λ takes. before takes ++ taken m lists takes) c f
  filled_here p before f = subst (λ vs. IsFilling p c f (before (takes_of c) ++ vs)) here

  pub given_on : (now : List (List Value)) → now ≡ left (takes_of c) given
      → now ≡ map (taken_by m lists) (flat_map takes_of (drop (i + 1) channels))
  given_on now e =
      e ∙ ap (left (takes_of c)) next_is ∙ left_map (taken_by m lists) (takes_of c) rest
