-- In the meaning of a well-formed script each needed node that reads no file and nothing that is
-- kept meets its equation, over the whole table.
use Rattle.std.proofs.Common.{◌≡◌, ℕ, zero, suc, ◌+◌, Bool, true, false, List, [], ◌∷◌}
use Rattle.std.proofs.Common.{◌++◌, length, Option, Some, None, slice_get, refl}
use Rattle.std.proofs.Common.{sym, subst, arith, ap, ◌∙◌}
use Rattle.std.proofs.Common.{length-append}
use Rattle.std.specs.List.{Contains}
use Rattle.flume_collection.specs.Collection.{Collection}
use Rattle.flume_value.specs.declared.value.Value.{Value}
use Rattle.written_types.specs.Named.{Named}
use Rattle.script_program.specs.Needed.{is_needed, operands}
use Rattle.script_program.specs.Script.{Node, Script}
use Rattle.script_program.specs.Sources.{in_order}
use Rattle.script_laws.proofs.NeededLemmas.{operand_before}
use Rattle.script_laws.specs.WellFormed.{AllFit, IsWellFormed}
use Rattle.direct_meaning.proofs.GrowLemmas.{Begins, begun_at, begun_end, grows, longer, next, shorter}
use Rattle.direct_meaning.proofs.MeaningLemmas.{reads_needed}
use Rattle.direct_meaning.specs.Direct.{collections, inputs_behind, made_as, made_at, meaning}
use Rattle.repeat_law.proofs.SameLemmas.{FromNoFile, kept_made}
use Rattle.repeat_law.proofs.PlaceLemmas.{split_at}

module _ (script : Script) where
  abbrev Lengthens : Named Node → Type 0
  Lengthens nodes = (inputs : List (List Value)) (table whole : List (Option Collection))
      → collections script nodes inputs table ≡ Some whole
      → length whole ≡ length table + length nodes

  next_lengthens : (entry : List ℕ × Node) (nodes : Named Node) → Lengthens nodes
      → (needed : Bool) (made : Option Collection) (inputs : List (List Value))
      (table whole : List (Option Collection))
      → next script needed made entry nodes inputs table ≡ Some whole
      → length whole ≡ length table + suc (length nodes)
  next_lengthens entry nodes lengthen true None inputs table whole is = cc
  next_lengthens entry nodes lengthen true (Some c) inputs table whole is =
      let rest =
      lengthen (inputs_behind entry.1.made inputs) (table ++ Some c ∷ []) whole is in
      omega (arith, rest, length-append table (Some c ∷ []))
  next_lengthens entry nodes lengthen false made inputs table whole is =
      let rest = lengthen inputs (table ++ None ∷ []) whole is in
      omega (arith, rest, length-append table (None ∷ []))

  lengthens : (nodes : Named Node) → Lengthens nodes
  lengthens [] [] table whole is =
      let same : table ≡ whole = cc in
      let long = ap length (sym same) in omega arith
  lengthens [] (rows ∷ inputs) table whole is = cc
  lengthens (entry ∷ nodes) inputs table whole is =
      next_lengthens entry nodes (lengthens nodes) (is_needed script (length table))
      (made_as script (length table) entry.1.made inputs table) inputs table whole is

  -- a node meets its equation over a whole table
  abbrev Meets : Named Node → Type 0
  Meets nodes = (before : Named Node) (inputs : List (List Value))
      (table whole : List (Option Collection)) → AllFit script.functions before nodes
      → length before ≡ length table → collections script nodes inputs table ≡ Some whole
      → (i number : ℕ) → number ≡ length table + i → (entry : List ℕ × Node)
      → slice_get nodes i ≡ Some entry → is_needed script number ≡ true
      → FromNoFile entry.1.made
      → made_at whole number ≡ made_as script number entry.1.made [] whole

  next_meets : (entry : List ℕ × Node) (nodes : Named Node) → Meets nodes → (needed : Bool)
      (made : Option Collection) (before : Named Node) (inputs : List (List Value))
      (table whole : List (Option Collection)) → AllFit script.functions before (entry ∷ nodes)
      → length before ≡ length table
      → next script needed made entry nodes inputs table ≡ Some whole
      → (i number : ℕ) → number ≡ suc (length table + i) → (other : List ℕ × Node)
      → slice_get nodes i ≡ Some other → is_needed script number ≡ true
      → FromNoFile other.1.made
      → made_at whole number ≡ made_as script number other.1.made [] whole
  next_meets entry nodes meet true None before inputs table whole fit many is i number at other
      there needed none =
      cc
  next_meets entry nodes meet true (Some c) before inputs table whole fit many is i number at other
      there needed none =
      let table_longer = longer table (Some c) in
      let nodes_longer = length-append before (entry ∷ []) in
      meet (before ++ entry ∷ []) (inputs_behind entry.1.made inputs) (table ++ Some c ∷ []) whole
      fit.1 (omega arith) is i number (omega arith) other there needed none
  next_meets entry nodes meet false made before inputs table whole fit many is i number at other
      there needed none =
      let table_longer = longer table None in
      let nodes_longer = length-append before (entry ∷ []) in
      meet (before ++ entry ∷ []) inputs (table ++ None ∷ []) whole fit.1 (omega arith) is i number
      (omega arith) other there needed none

  here_meets : (entry : List ℕ × Node) (nodes : Named Node) (needed : Bool)
      (made : Option Collection) (inputs : List (List Value))
      (table whole : List (Option Collection)) → needed ≡ true
      → next script needed made entry nodes inputs table ≡ Some whole
      → Begins (table ++ made ∷ []) whole
  here_meets entry nodes true None inputs table whole needed is = cc
  here_meets entry nodes true (Some c) inputs table whole needed is =
      grows script nodes (inputs_behind entry.1.made inputs) (table ++ Some c ∷ []) whole is
  here_meets entry nodes false made inputs table whole needed is = cc

  meets : (nodes : Named Node) → Meets nodes
  meets [] before inputs table whole fit many is i number at entry there needed none = cc
  meets (first ∷ nodes) before inputs table whole fit many is zero number at entry there needed
      none =
      let same : first ≡ entry = cc in
      let here : number ≡ length table = omega arith in
      let how = first.1.made in
      let made = made_as script (length table) how inputs table in
      let begins = here_meets first nodes (is_needed script (length table)) made inputs table whole
      (ap (is_needed script) (sym here) ∙ needed) is in
      let shorter_begins = shorter table whole made begins in
      let fact : made_at whole (length table) ≡ made_as script (length table) how [] whole =
      begun_end table whole made begins
      ∙ sym (kept_made script (length table) how whole table [] inputs
      (subst (λ (e : List ℕ × Node). FromNoFile e.1.made) (sym same) none)
      (λ n reads.
      let below = operand_before script.functions before how first.1.type fit.0 n reads in
      begun_at table whole shorter_begins n (omega arith))) in
      subst (λ (e : List ℕ × Node). made_at whole number ≡ made_as script number e.1.made [] whole)
      same
      (subst (λ (m : ℕ). made_at whole m ≡ made_as script m how [] whole) (sym here) fact)
  meets (first ∷ nodes) before inputs table whole fit many is (suc i) number at entry there needed
      none =
      next_meets first nodes (meets nodes) (is_needed script (length table))
      (made_as script (length table) first.1.made inputs table) before inputs table whole fit many
      is i number (omega arith) entry there needed none

-- ---- what is said of a whole script

module _ (script : Script) (well : IsWellFormed script) (inputs : List (List Value))
    (whole : List (Option Collection)) (means : meaning script inputs ≡ Some whole) where
  pub equation : (number : ℕ) (entry : List ℕ × Node)
      → slice_get script.nodes number ≡ Some entry → is_needed script number ≡ true
      → FromNoFile entry.1.made
      → made_at whole number ≡ made_as script number entry.1.made [] whole
  equation number entry there needed none =
      meets script script.nodes [] (in_order script inputs) [] whole well.nodes refl means number
      number (omega arith) entry there needed none

  pub as_long : length whole ≡ length script.nodes
  as_long =
      let it = lengthens script script.nodes (in_order script inputs) [] whole means in
      omega arith

-- what a needed node reads is needed
pub reads : (script : Script) → IsWellFormed script → (number : ℕ) (entry : List ℕ × Node)
    → slice_get script.nodes number ≡ Some entry → is_needed script number ≡ true → (n : ℕ)
    → Contains (operands entry.1.made) n → is_needed script n ≡ true
reads script well number entry there needed n has =
    let split = split_at script.nodes number entry there in
    reads_needed script well split.0 split.1 entry split.2
    (ap (is_needed script) split.3 ∙ needed) n has
