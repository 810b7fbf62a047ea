-- Of one graph and the bytes of one file there is one answer.
use Rattle.std.proofs.Common.{◌≡◌, ℕ, ◌+◌, List, length, Some, None, Result, Ok, Err, refl, sym, ap, ◌∙◌, subst}
use Rattle.serde_json.specs.Data.{Data}
use Rattle.serde_json.specs.Read.{read}
use Rattle.serde_json.specs.Written.{compact_text}
use Rattle.exec_graph.specs.Readers.{among}
use Rattle.exec_graph.specs.Wellformed.{IsGraphOk}
use Rattle.exec_graph.specs.declared.graph.Blocked.{Blocked}
use Rattle.exec_graph.specs.declared.graph.Graph.{Graph}
use Rattle.exec_graph.proofs.Soundness.{IsSound-ok}
use Rattle.exec_plan.specs.declared.plan.Plan.{Plan}
use Rattle.optimise.proofs.of_form_laws.SameMarks.{plan_same}
use Rattle.fusion_blocks.specs.Blocks.{unmarked}
use Rattle.graph_rewrites.specs.Replays.{StopsAt}
use Rattle.graph_rewrites.specs.declared.rewrite.Rewrite.{Rewrite}
use Rattle.graph_rewrites.proofs.Replaying.{leads_ok, leads_on, leads_one, stops_once}
use Rattle.optimise.specs.Optimised.{source_count}
use Rattle.plan_files.specs.Forms.{plan_file_of}
use Rattle.plan_files.specs.Reads.{HasNoShape, HasValue, IsFile, IsNoJson}
use Rattle.plan_files.specs.declared.file.PlanFile.{PlanFile}
use Rattle.plan_json.specs.PlanJson.{plan_json_of}
use Rattle.plan_writing.specs.Naming.{Naming}
use Rattle.plan_check.specs.Checked.{Forms, HasText, IsChecked, IsLedTo, IsOther, StopsAtRewrite}
use Rattle.plan_faults.specs.declared.fault.PlanFault.{PlanFault}
use Rattle.plan_faults.specs.declared.fault.PlanFault.TheVariants.{Refused, Memory}
use Rattle.plan_faults.specs.declared.fault.PlanKind.TheVariants.{NotJson, Shape, BadStep, Differs}

-- ---- files

value_one : (bytes : List ℕ) (d e : Data) → HasValue bytes d → HasValue bytes e → d ≡ e
value_one bytes d e a b =
    let p : read bytes ≡ Some d = a.1 in
    let q : read bytes ≡ Some e = b.1 in
    cc

no_value : (bytes : List ℕ) (d : Data) → IsNoJson bytes → HasValue bytes d → ⊥
no_value bytes d none a =
    let p : read bytes ≡ None = none a.0 in
    let q : read bytes ≡ Some d = a.1 in
    cc

file_one : (bytes : List ℕ) (f h : PlanFile) → IsFile bytes f → IsFile bytes h → f ≡ h
file_one bytes f h a b =
    let same : a.0 ≡ b.0 = value_one bytes a.0 b.0 a.1 b.1 in
    let p : plan_file_of a.0 ≡ Some f = a.2 in
    let q : plan_file_of a.0 ≡ Some h = ap plan_file_of same ∙ b.2 in
    cc

no_file : (bytes : List ℕ) (f : PlanFile) → HasNoShape bytes → IsFile bytes f → ⊥
no_file bytes f a b =
    let same : a.0 ≡ b.0 = value_one bytes a.0 b.0 a.1 b.1 in
    let p : plan_file_of a.0 ≡ None = a.2 in
    let q : plan_file_of a.0 ≡ Some f = ap plan_file_of same ∙ b.2 in
    cc

-- ---- what rewrites lead to

forms_one : (g : Graph) (rs : List Rewrite) (p q : Plan) → IsGraphOk g → Forms g rs p
    → Forms g rs q → p ≡ q
forms_one g rs p q ok a b =
    let same : a.blocked ≡ b.blocked =
    leads_one 0 rs (unmarked g) a.blocked b.blocked a.leads b.leads in
    plan_same (source_count g.nodes) a.blocked b.blocked p q
    (IsSound-ok a.blocked.graph (leads_ok rs g a.blocked ok a.leads).ok).differ
    (ap (λ (x : Blocked). x.graph) same) (λ c. ap (λ (x : Blocked). among c x.marks) same)
    a.formed b.formed

led_one : (g : Graph) (bytes : List ℕ) (p q : Plan) → IsGraphOk g → IsLedTo g bytes p
    → IsLedTo g bytes q → p ≡ q
led_one g bytes p q ok a b =
    let same : a.file ≡ b.file = file_one bytes a.file b.file a.is_file b.is_file in
    forms_one g a.file.rewrites p q ok a.forms
    (subst (λ (f : PlanFile). Forms g f.rewrites q) (sym same) b.forms)

same_text : (names : Naming) (g : Graph) (bytes : List ℕ) (p q : Plan) → IsGraphOk g
    → (a : IsLedTo g bytes p) (b : IsLedTo g bytes q) → HasText names a.file p
    → HasText names b.file q
same_text names g bytes p q ok a b h =
    ap (λ (f : PlanFile). f.plan) (sym (file_one bytes a.file b.file a.is_file b.is_file)) ∙ h
    ∙ ap (λ (r : Plan). Some (compact_text (plan_json_of names r))) (led_one g bytes p q ok a b)

stopped_one : (g : Graph) (bytes : List ℕ) (i j : ℕ) → StopsAtRewrite g bytes i
    → StopsAtRewrite g bytes j → i ≡ j
stopped_one g bytes i j a b =
    let same : a.file ≡ b.file = file_one bytes a.file b.file a.is_file b.is_file in
    stops_once 0 a.file.rewrites (unmarked g) i j a.stops
    (subst (λ (f : PlanFile). StopsAt 0 f.rewrites (unmarked g) j) (sym same) b.stops)

stopped_on : (g : Graph) (bytes : List ℕ) (i : ℕ) (p : Plan) → StopsAtRewrite g bytes i
    → IsLedTo g bytes p → ⊥
stopped_on g bytes i p a b =
    let same : a.file ≡ b.file = file_one bytes a.file b.file a.is_file b.is_file in
    leads_on 0 b.file.rewrites (unmarked g) b.forms.blocked i b.forms.leads
    (subst (λ (f : PlanFile). StopsAt 0 f.rewrites (unmarked g) i) same a.stops)

other_one : (names : Naming) (g : Graph) (bytes : List ℕ) (i j : ℕ)
    → IsOther names g bytes i → IsOther names g bytes j → i ≡ j
other_one names g bytes i j a b =
    a.behind
    ∙ ap (λ (f : PlanFile). length f.rewrites + 1)
    (file_one bytes a.led.file b.led.file a.led.is_file b.led.is_file)
    ∙ sym b.behind

-- ---- answers

pub one_answer : (names : Naming) (g : Graph) (bytes : List ℕ) (a b : Result Plan PlanFault)
    → IsGraphOk g → IsChecked names g bytes a → IsChecked names g bytes b
    → (a ≡ Err Memory → ⊥) → (b ≡ Err Memory → ⊥) → a ≡ b
one_answer names g bytes (Err Memory) b ok x y n m = absurd (n refl)
one_answer names g bytes (Ok p) (Err Memory) ok x y n m = absurd (m refl)
one_answer names g bytes (Err (Refused i k)) (Err Memory) ok x y n m = absurd (m refl)
one_answer names g bytes (Ok p) (Ok q) ok x y n m = ap Ok (led_one g bytes p q ok x.0 y.0)
one_answer names g bytes (Ok p) (Err (Refused i NotJson)) ok x y n m =
    absurd (no_value bytes x.0.is_file.0 y.1 x.0.is_file.1)
one_answer names g bytes (Ok p) (Err (Refused i Shape)) ok x y n m =
    absurd (no_file bytes x.0.file y.1 x.0.is_file)
one_answer names g bytes (Ok p) (Err (Refused i BadStep)) ok x y n m =
    absurd (stopped_on g bytes i p y x.0)
one_answer names g bytes (Ok p) (Err (Refused i Differs)) ok x y n m =
    absurd (y.other (same_text names g bytes p y.plan ok x.0 y.led x.1))
one_answer names g bytes (Err (Refused i NotJson)) (Ok q) ok x y n m =
    absurd (no_value bytes y.0.is_file.0 x.1 y.0.is_file.1)
one_answer names g bytes (Err (Refused i NotJson)) (Err (Refused j NotJson)) ok x y n m =
    ap (λ s. Err (Refused s NotJson)) (x.0 ∙ sym y.0)
one_answer names g bytes (Err (Refused i NotJson)) (Err (Refused j Shape)) ok x y n m =
    absurd (no_value bytes y.1.0 x.1 y.1.1)
one_answer names g bytes (Err (Refused i NotJson)) (Err (Refused j BadStep)) ok x y n m =
    absurd (no_value bytes y.is_file.0 x.1 y.is_file.1)
one_answer names g bytes (Err (Refused i NotJson)) (Err (Refused j Differs)) ok x y n m =
    absurd (no_value bytes y.led.is_file.0 x.1 y.led.is_file.1)
one_answer names g bytes (Err (Refused i Shape)) (Ok q) ok x y n m =
    absurd (no_file bytes y.0.file x.1 y.0.is_file)
one_answer names g bytes (Err (Refused i Shape)) (Err (Refused j NotJson)) ok x y n m =
    absurd (no_value bytes x.1.0 y.1 x.1.1)
one_answer names g bytes (Err (Refused i Shape)) (Err (Refused j Shape)) ok x y n m =
    ap (λ s. Err (Refused s Shape)) (x.0 ∙ sym y.0)
one_answer names g bytes (Err (Refused i Shape)) (Err (Refused j BadStep)) ok x y n m =
    absurd (no_file bytes y.file x.1 y.is_file)
one_answer names g bytes (Err (Refused i Shape)) (Err (Refused j Differs)) ok x y n m =
    absurd (no_file bytes y.led.file x.1 y.led.is_file)
one_answer names g bytes (Err (Refused i BadStep)) (Ok q) ok x y n m =
    absurd (stopped_on g bytes i q x y.0)
one_answer names g bytes (Err (Refused i BadStep)) (Err (Refused j NotJson)) ok x y n m =
    absurd (no_value bytes x.is_file.0 y.1 x.is_file.1)
one_answer names g bytes (Err (Refused i BadStep)) (Err (Refused j Shape)) ok x y n m =
    absurd (no_file bytes x.file y.1 x.is_file)
one_answer names g bytes (Err (Refused i BadStep)) (Err (Refused j BadStep)) ok x y n m =
    ap (λ s. Err (Refused s BadStep)) (stopped_one g bytes i j x y)
one_answer names g bytes (Err (Refused i BadStep)) (Err (Refused j Differs)) ok x y n m =
    absurd (stopped_on g bytes i y.plan x y.led)
one_answer names g bytes (Err (Refused i Differs)) (Ok q) ok x y n m =
    absurd (x.other (same_text names g bytes q x.plan ok y.0 x.led y.1))
one_answer names g bytes (Err (Refused i Differs)) (Err (Refused j NotJson)) ok x y n m =
    absurd (no_value bytes x.led.is_file.0 y.1 x.led.is_file.1)
one_answer names g bytes (Err (Refused i Differs)) (Err (Refused j Shape)) ok x y n m =
    absurd (no_file bytes x.led.file y.1 x.led.is_file)
one_answer names g bytes (Err (Refused i Differs)) (Err (Refused j BadStep)) ok x y n m =
    absurd (stopped_on g bytes j x.plan y x.led)
one_answer names g bytes (Err (Refused i Differs)) (Err (Refused j Differs)) ok x y n m =
    ap (λ s. Err (Refused s Differs)) (other_one names g bytes i j x y)
