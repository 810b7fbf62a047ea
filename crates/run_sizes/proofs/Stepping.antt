-- One collection more, along a script's nodes.
use Rattle.std.proofs.Common.{◌≡◌, ℕ, zero, suc, ◌+◌, ◌<◌, ◌≤◌, Bool, true, false, List, [], ◌∷◌, ◌++◌, drop, length, Option, Some, None, slice_get, refl, sym, ap, ◌∙◌, subst, arith, add-one}
use Rattle.std.specs.Prelude.{if◌then◌else◌, option_map}
use Rattle.written_types.specs.Named.{Named}
use Rattle.script_program.specs.Needed.{is_needed}
use Rattle.script_program.specs.Script.{Node, Script}
use Rattle.script_program.specs.declared.made.Made.{Made}
use Rattle.script_program.specs.declared.made.Made.TheVariants as made
use Rattle.run_sizes.specs.inner.Along.{behind, sized_as, sizes_along}

abbrev pub MadeOf : List ℕ × Node → Made
MadeOf entry = entry.1.made

-- how the collection of an entry is made
pub made_there : (o : Option (List ℕ × Node)) (node : Node)
    → option_map (λ e. e.1) o ≡ Some node → option_map MadeOf o ≡ Some node.made
made_there None node at = cc
made_there (Some e) node at = let same : e.1 ≡ node = cc in ap (λ (d : Node). Some d.made) same

next_entry : (nodes : Named Node) (n : ℕ) (mk : Made)
    → option_map MadeOf (slice_get nodes n) ≡ Some mk
    → (e : List ℕ × Node) × (drop n nodes ≡ e ∷ drop (suc n) nodes) × (e.1.made ≡ mk)
next_entry [] n mk at = cc
next_entry (e ∷ nodes) zero mk at = (e, refl, cc)
next_entry (e ∷ nodes) (suc n) mk at = next_entry nodes n mk at

some_entry : (nodes : Named Node) (n : ℕ) → n < length nodes
    → (e : List ℕ × Node) × (drop n nodes ≡ e ∷ drop (suc n) nodes)
some_entry [] n below = absurd (omega arith)
some_entry (e ∷ nodes) zero below = (e, refl)
some_entry (e ∷ nodes) (suc n) below = some_entry nodes n (omega arith)

module _ (script : Script) (members numbers counts : List ℕ) where
  -- one entry, whether it is needed or not
  pub along_next : (entry : List ℕ × Node) (nodes : Named Node) (input : ℕ)
      (sizes : List (Option ℕ)) (needed : Bool) → is_needed script (length sizes) ≡ needed
      → sizes_along script members numbers counts (entry ∷ nodes) input sizes
      ≡ (if needed then sizes_along script members numbers counts nodes (behind entry.1.made input)
      (sizes ++ Some (sized_as members numbers counts (length sizes) entry.1.made input sizes) ∷ [])
      else sizes_along script members numbers counts nodes input (sizes ++ None ∷ []))
  along_next entry nodes input sizes needed =
      ap
      (λ b. if b
      then sizes_along script members numbers counts nodes (behind entry.1.made input)
      (sizes ++ Some (sized_as members numbers counts (length sizes) entry.1.made input sizes) ∷ [])
      else sizes_along script members numbers counts nodes input (sizes ++ None ∷ []))

  pub on_taken : (nodes : Named Node) (n input : ℕ) (sizes : List (Option ℕ)) (mk : Made)
      (size : ℕ) (whole : List (Option ℕ)) → option_map MadeOf (slice_get nodes n) ≡ Some mk
      → length sizes ≡ n → is_needed script n ≡ true
      → size ≡ sized_as members numbers counts n mk input sizes
      → sizes_along script members numbers counts (drop n nodes) input sizes ≡ whole
      → sizes_along script members numbers counts (drop (n + 1) nodes) (behind mk input)
      (sizes ++ Some size ∷ []) ≡ whole
  on_taken nodes n input sizes mk size whole at count needed is along =
      let (e, next, made) = next_entry nodes n mk at in
      let same : size ≡ sized_as members numbers counts (length sizes) e.1.made input sizes
      = is ∙ (λ i. sized_as members numbers counts (sym count i) (sym made i) input sizes) in
      (λ i. sizes_along script members numbers counts (drop (add-one n i) nodes) (behind
      (sym made i) input)
      (sizes ++ Some (same i) ∷ []))
      ∙ (sym (along_next e (drop (suc n) nodes) input sizes true
      (ap (is_needed script) count ∙ needed))
      ∙ subst (λ (l : Named Node). sizes_along script members numbers counts l input sizes
      ≡ whole) next
      along)

  pub on_passed : (nodes : Named Node) (n input : ℕ) (sizes whole : List (Option ℕ))
      → n < length nodes → length sizes ≡ n → is_needed script n ≡ false
      → sizes_along script members numbers counts (drop n nodes) input sizes ≡ whole
      → sizes_along script members numbers counts (drop (n + 1) nodes) input (sizes ++ None ∷ [])
      ≡ whole
  on_passed nodes n input sizes whole below count needless along =
      let (e, next) = some_entry nodes n below in
      (λ i. sizes_along script members numbers counts (drop (add-one n i) nodes) input
      (sizes ++ None ∷ []))
      ∙ (sym (along_next e (drop (suc n) nodes) input sizes false
      (ap (is_needed script) count ∙ needless))
      ∙ subst (λ (l : Named Node). sizes_along script members numbers counts l input sizes
      ≡ whole) next
      along)

pub none_left : {A : Type 0} (xs : List A) (n : ℕ) → n ≡ length xs → drop n xs ≡ []
none_left [] zero end = refl
none_left [] (suc n) end = absurd (omega arith)
none_left (x ∷ xs) zero end = absurd (omega arith)
none_left (x ∷ xs) (suc n) end = none_left xs n (omega arith)

pub few_behind : (mk : Made) (input n : ℕ) → input ≤ n → behind mk input ≤ n + 1
few_behind (made.Input file columns) input n few = omega arith
few_behind (made.Do source f output) input n few = omega arith
few_behind (made.Group source) input n few = omega arith
few_behind (made.Combine source k) input n few = omega arith
few_behind (made.Flatten sources) input n few = omega arith
few_behind (made.Count source) input n few = omega arith
few_behind (made.Join a b) input n few = omega arith
few_behind (made.Top many source) input n few = omega arith
few_behind (made.CombineAll source k) input n few = omega arith
few_behind (made.Operate objects f) input n few = omega arith
few_behind (made.DoWith source f object) input n few = omega arith
few_behind (made.Saved is_object call) input n few = omega arith
