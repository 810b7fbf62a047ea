use Rattle.std.proofs.Common.{◌≡◌, ℕ, List, [], ◌++◌, codes, append_assoc, subst}
use Rattle.outside.proofs.SaidLemmas.{says_both, says_cut}
use Rattle.outside.specs.Says.{Says}
use Rattle.printing.specs.Printed.{printed}
use Rattle.run_texts.specs.Lines.{reason_name}
use Rattle.run_texts.specs.declared.lines.Reason.TheVariants.{Trap}
use Rattle.run_texts.proofs.lines.say_why.Goals as goal

abbrev front : List ℕ → List ℕ
front kind = codes ": " ++ (kind ++ (codes " on " ++ []))

-- what stands before the element, and then the rest
between : (kind rest : List ℕ) → front kind ++ rest
    ≡ codes ": " ++ (kind ++ (codes " on " ++ rest))
between kind rest = simp append_assoc

pub returns-in_err-say_all : goal.returns-in_err-say_all
returns-in_err-say_all g c =
    let r = c.from_residual.result in
    let kind = reason_name (Trap c.args.kind) in
    let rest = printed c.args.element.now ++ codes "\n" in
    subst (λ (text : List ℕ). Says text (g.P.Screen.seen c.args.screen.now)
    (g.P.Screen.seen c.say_all.new.screen) r) (between kind rest)
    (says_cut (front kind) rest _ _ _ r c.from_residual.ensures.0
    (rw c.reason_text.ensures at c.in_err-say_all.ensures))

pub returns-in_err-say_value : goal.returns-in_err-say_value
returns-in_err-say_value g c =
    let r = c.from_residual-in_err-say_value.result in
    let kind = reason_name (Trap c.args.kind) in
    subst (λ (text : List ℕ). Says text (g.P.Screen.seen c.args.screen.now)
    (g.P.Screen.seen c.say_value.new.screen) r)
    (between kind (printed c.args.element.now ++ codes "\n"))
    (says_both (front kind) _ _ _ _ _ r (rw c.reason_text.ensures at c.in_ok-say_all.ensures)
    (says_cut (printed c.args.element.now) (codes "\n") _ _ _ r
    c.from_residual-in_err-say_value.ensures.0 c.in_err-say_value.ensures))

pub returns : goal.returns
returns g c =
    let kind = reason_name (Trap c.args.kind) in
    subst (λ (text : List ℕ). Says text (g.P.Screen.seen c.args.screen.now)
    (g.P.Screen.seen c.say.new.screen) c.say.result)
    (between kind (printed c.args.element.now ++ codes "\n"))
    (says_both (front kind) _ _ _ _ _ c.say.result
    (rw c.reason_text.ensures at c.in_ok-say_all.ensures)
    (says_both (printed c.args.element.now) (codes "\n") _ _ _ _ c.say.result
    c.in_ok-say_value.ensures c.say.ensures))
