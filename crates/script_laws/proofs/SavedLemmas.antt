-- A well-formed script is one too where some of its collections are kept ones.
use Rattle.std.proofs.Common.{◌≡◌, ℕ, zero, suc, ◌+◌, Bool, true, false, List, [], ◌∷◌, ◌++◌}
use Rattle.std.proofs.Common.{length, map, Option, Some, None, if◌then◌else◌, slice_get, IsSomeAnd}
use Rattle.std.proofs.Common.{refl, sym, ap, ◌∙◌, subst, arith, add-zero, zero-add}
use Rattle.std.specs.List.{AllByRecursion as Each}
use Rattle.std.specs.Option.{option_map}
use Rattle.std.proofs.lemmas.List.{map_push}
use Rattle.std.proofs.lemmas.Option.{slice_get-map}
use Rattle.flume_types.specs.declared.types.Ty.{Ty}
use Rattle.script_rules.specs.of_written_types.Named.{Named}
use Rattle.script_rules.specs.of_script_program.declared.made.Emitted.{Emitted}
use Rattle.script_rules.specs.of_script_program.declared.made.Made.{Made}
use Rattle.script_rules.specs.of_script_program.declared.made.Made.TheVariants as made
use Rattle.script_rules.specs.of_script_program.declared.made.Output.{Output}
use Rattle.script_rules.specs.of_script_program.Kinds.{emitted_as, gives_object, members_read, values_read}
use Rattle.script_rules.specs.of_script_program.Needed.{holds_number, made_of}
use Rattle.script_rules.specs.of_script_program.Saved.{saved_as, saved_among, saved_node, with_saved}
use Rattle.script_rules.specs.of_script_program.Script.{Function, Node, Script}
use Rattle.script_laws.specs.WellFormed.{AllFit, AllReadKinds, Fits, HasColumns, IsCallOf, ComesOfEarlierRun}
use Rattle.script_laws.specs.WellFormed.{IsNameOf, IsWellFormed, ReadsKinds, object_at}
use Rattle.script_laws.proofs.FitLemmas.{fits-there}

-- ---- what is read off a collection

abbrev typed : List ℕ × Node → Ty
typed entry = entry.1.type

abbrev kind : List ℕ × Node → Bool
kind entry = gives_object entry.1.made

read-same : {X : Type 0} (f : List ℕ × Node → X) (a b : Named Node) → map f a ≡ map f b
    → (n : ℕ) → option_map f (slice_get a n) ≡ option_map f (slice_get b n)
read-same f a b same n =
    sym (slice_get-map f a n) ∙ ap (λ xs. slice_get xs n) same ∙ slice_get-map f b n

longer : {X : Type 0} (f : List ℕ × Node → X) (a b : Named Node) (x y : List ℕ × Node)
    → map f a ≡ map f b → f x ≡ f y → map f (a ++ x ∷ []) ≡ map f (b ++ y ∷ [])
longer f a b x y same here =
    map_push f a x ∙ (λ i. same i ++ here i ∷ []) ∙ sym (map_push f b y)

-- a collection that is kept or not
abbrev pub saved_if : Bool → List ℕ × Node → List ℕ × Node
saved_if b entry = if b then (entry.0, saved_node entry.1) else entry

typed-saved : (b : Bool) (entry : List ℕ × Node) → typed entry ≡ typed (saved_if b entry)
typed-saved true entry = refl
typed-saved false entry = refl

kind-saved : (b : Bool) (entry : List ℕ × Node) → kind entry ≡ kind (saved_if b entry)
kind-saved true entry = refl
kind-saved false entry = refl

all-read : {X : Type 0} (f : List ℕ × Node → X)
    → ((b : Bool) (entry : List ℕ × Node) → f entry ≡ f (saved_if b entry)) → (found : List ℕ)
    (n : ℕ) (nodes : Named Node) → map f nodes ≡ map f (saved_among found n nodes)
all-read f same found n [] = refl
all-read f same found n (entry ∷ nodes) =
    λ i. same (holds_number found n) entry i ∷ all-read f same found (suc n) nodes i

length-saved : (found : List ℕ) (n : ℕ) (nodes : Named Node)
    → length (saved_among found n nodes) ≡ length nodes
length-saved found n [] = refl
length-saved found n (entry ∷ nodes) = ap suc (length-saved found (suc n) nodes)

-- ---- collections fit

-- what is kept of it fits
kept-fits : (functions : Named Function) (nodes : Named Node) (how : Made) (type : Ty)
    → Fits functions nodes how type → ComesOfEarlierRun functions (emitted_as how) type
kept-fits functions nodes (made.Do source function output) type f =
    record { function = f.function; calls = f.calls; gives = f.gives }
kept-fits functions nodes (made.Saved is_object call) type f = f
kept-fits functions nodes _ type f = tt

module _ (functions : Named Function) (found : List ℕ) where
  fit-if : (b : Bool) (before after : Named Node) (entry : List ℕ × Node)
      → map typed before ≡ map typed after → Fits functions before entry.1.made entry.1.type
      → Fits functions after (saved_if b entry).1.made (saved_if b entry).1.type
  fit-if true before after entry same f =
      kept-fits functions before entry.1.made entry.1.type f
  fit-if false before after entry same f =
      fits-there functions functions before after (λ called function is. is)
      (λ n type is. sym (read-same typed before after same n) ∙ is) entry.1.made entry.1.type f

  all-fit : (n : ℕ) (before after nodes : Named Node) → map typed before ≡ map typed after
      → AllFit functions before nodes → AllFit functions after (saved_among found n nodes)
  all-fit n before after [] same fit = tt
  all-fit n before after (entry ∷ nodes) same fit =
      let b = holds_number found n in (
        fit-if b before after entry same fit.0,
        all-fit (suc n) (before ++ entry ∷ []) (after ++ saved_if b entry ∷ []) nodes
            (longer typed before after entry (saved_if b entry) same (typed-saved b entry))
            fit.1,
      )

-- ---- collections read kinds

each-kind : (a b : Named Node) → map kind a ≡ map kind b → (is : Bool) (numbers : List ℕ)
    → Each (λ number. object_at a number ≡ Some is) numbers
    → Each (λ number. object_at b number ≡ Some is) numbers
each-kind a b same is [] each = tt
each-kind a b same is (number ∷ numbers) each = (
  sym (read-same kind a b same number) ∙ each.0,
  each-kind a b same is numbers each.1,
)

kinds-if : (b : Bool) (before after : Named Node) (entry : List ℕ × Node)
    → map kind before ≡ map kind after → ReadsKinds before entry.1.made
    → ReadsKinds after (saved_if b entry).1.made
kinds-if true before after entry same reads = record { members = tt; values = tt }
kinds-if false before after entry same reads = record {
  members = each-kind before after same false (members_read entry.1.made) reads.members;
  values = each-kind before after same true (values_read entry.1.made) reads.values;
}

all-kinds : (found : List ℕ) (n : ℕ) (before after nodes : Named Node)
    → map kind before ≡ map kind after → AllReadKinds before nodes
    → AllReadKinds after (saved_among found n nodes)
all-kinds found n before after [] same reads = tt
all-kinds found n before after (entry ∷ nodes) same reads =
    let b = holds_number found n in (
      kinds-if b before after entry same reads.0,
      all-kinds found (suc n) (before ++ entry ∷ []) (after ++ saved_if b entry ∷ []) nodes
          (longer kind before after entry (saved_if b entry) same (kind-saved b entry)) reads.1,
    )

-- ---- how collections are made

abbrev made_if : Bool → Made → Made
made_if b how = if b then saved_as how else how

made-if : (b : Bool) (entry : List ℕ × Node)
    → (saved_if b entry).1.made ≡ made_if b entry.1.made
made-if true entry = refl
made-if false entry = refl

made-from : (found : List ℕ) (n k : ℕ) (nodes : Named Node)
    → slice_get (map (λ entry. entry.1.made) (saved_among found n nodes)) k
    ≡ option_map (made_if (holds_number found (n + k))) (slice_get
    (map (λ entry. entry.1.made) nodes) k)
made-from found n k [] = refl
made-from found n zero (entry ∷ nodes) =
    ap Some (made-if (holds_number found n) entry)
    ∙ ap (λ m. Some (made_if (holds_number found m) entry.1.made)) (sym (add-zero n))
made-from found n (suc k) (entry ∷ nodes) =
    let e : suc n + k ≡ n + suc k = omega arith in
    made-from found (suc n) k nodes
    ∙ ap (λ m. option_map (made_if (holds_number found m))
    (slice_get (map (λ (it : List ℕ × Node). it.1.made) nodes) k)) e

pub made-saved : (script : Script) (found : List ℕ) (k : ℕ)
    → slice_get (made_of (with_saved found script)) k
    ≡ option_map (λ how. if holds_number found k then saved_as how else how)
    (slice_get (made_of script) k)
made-saved script found k =
    made-from found 0 k script.nodes
    ∙ ap (λ m. option_map (made_if (holds_number found m)) (slice_get (made_of script) k))
    (zero-add k)

-- ---- calls

emitted-if : (b : Bool) (how : Made) → emitted_as (made_if b how) ≡ emitted_as how
emitted-if true how = refl
emitted-if false how = refl

-- a name of a call is one where it is kept
name-kept : (source called k : ℕ) (how : Made) → IsNameOf source called k how
    → IsNameOf source called k (saved_as how)
name-kept source called k (made.Do input function output) name = ap emitted_as name
name-kept source called k (made.Saved is_object call) name = name
name-kept source called k _ name = absurd name

name-if : (b : Bool) (source called k : ℕ) (o : Option Made)
    → IsSomeAnd o (IsNameOf source called k)
    → IsSomeAnd (option_map (made_if b) o) (IsNameOf source called k)
name-if b source called k None name = absurd name
name-if true source called k (Some how) name = name-kept source called k how name
name-if false source called k (Some how) name = name

-- how it was made, where it is made so with some kept
record Was (b : Bool) (o : Option Made) (how : Made) : Type 0 where
  pub before : Made
  pub there : o ≡ Some before
  pub is : made_if b before ≡ how

was : (b : Bool) (o : Option Made) (how : Made) → option_map (made_if b) o ≡ Some how
    → Was b o how
was b None how is = cc
was b (Some before) how is = record { before = before; there = refl; is = cc }

module _ (script : Script) (well : IsWellFormed script) (found : List ℕ) where
  call-saved : (number : ℕ) (how : Made) (it : Emitted)
      → slice_get (made_of (with_saved found script)) number ≡ Some how
      → emitted_as how ≡ Some it → IsCallOf (with_saved found script) number it
  call-saved number how it is emitted =
      let b = holds_number found number in
      let w = was b (slice_get (made_of script) number) how
      (sym (made-saved script found number) ∙ is) in
      let call = well.calls number w.before it w.there
      (sym (emitted-if b w.before) ∙ ap emitted_as w.is ∙ emitted) in
      record {
        first = call.first;
        place = call.place;
        function = call.function;
        calls = call.calls;
        source = call.source;
        names = λ k below.
            subst (λ o. IsSomeAnd o (IsNameOf call.source it.function k))
            (sym (made-saved script found (call.first + k)))
            (name-if (holds_number found (call.first + k)) call.source it.function k
            (slice_get (made_of script) (call.first + k)) (call.names k below));
      }

  columns-saved : (output : Output) → HasColumns script.nodes output
      → HasColumns (with_saved found script).nodes output
  columns-saved output h = record {
    type = h.type;
    reads =
        sym (read-same typed script.nodes (saved_among found 0 script.nodes)
        (all-read typed typed-saved found 0 script.nodes) output.reads)
        ∙ h.reads;
    columns = h.columns;
  }

  pub saved-well : IsWellFormed (with_saved found script)
  saved-well =
      record {
        functions = well.functions;
        gives = well.gives;
        nodes = all-fit script.functions found 0 [] [] script.nodes refl well.nodes;
        kinds = all-kinds found 0 [] [] script.nodes refl well.kinds;
        calls = call-saved;
        outputs = λ k d in_. columns-saved _ (well.outputs k d in_);
        some = well.some;
        few = omega (arith, well.few, length-saved found 0 script.nodes);
      }
