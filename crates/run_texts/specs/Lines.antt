-- The line that the screen gets for each refusal.
use Rattle.std.specs.Prelude.{ℕ, List, [], ◌++◌, codes, decimal}
use Rattle.csv_rows.specs.declared.fault.RowKind.{RowKind}
use Rattle.csv_rows.specs.declared.fault.RowKind.TheVariants as row
use Rattle.flume_grammar.specs.declared.fault.ScriptKind.{ScriptKind}
use Rattle.flume_grammar.specs.declared.fault.ScriptKind.TheVariants as script
use Rattle.run_texts.specs.declared.lines.Reason.{Reason}
use Rattle.run_texts.specs.declared.lines.Reason.TheVariants as reason
use Rattle.run_texts.specs.declared.status.Place.{Place}
use Rattle.run_texts.specs.declared.status.Place.TheVariants.{File, Screen}
use Rattle.run_texts.specs.declared.status.Status.{Status}
use Rattle.run_texts.specs.declared.status.Status.TheVariants.{Done, Usage, ScriptRefused, InputRefused, Trap, ReadFault, WriteFault, GaveUp, WantOfMemory, TooLong, NoFile, PlanRefused}
use Rattle.outside.specs.declared.host.Phase.{Phase}
use Rattle.outside.specs.declared.host.Phase.TheVariants.{Map, Reduce}
use Rattle.plan_faults.specs.declared.fault.PlanKind.{PlanKind}
use Rattle.plan_faults.specs.declared.fault.PlanKind.TheVariants as plan
use Rattle.flume_value.specs.declared.fault.Kind.{Kind}
use Rattle.flume_value.specs.declared.fault.Kind.TheVariants as trap
use Rattle.flume_value.specs.declared.value.Value.{Value}
use Rattle.printing.specs.Printed.{quoted, printed}

-- the name of each reason
abbrev pub reason_name : Reason → List ℕ
reason_name (reason.Script script.Utf8) = codes "Utf8"
reason_name (reason.Script script.Token) = codes "Token"
reason_name (reason.Script script.Syntax) = codes "Syntax"
reason_name (reason.Script script.TooDeep) = codes "TooDeep"
reason_name (reason.Script script.TooLong) = codes "TooLong"
reason_name (reason.Script script.TooMany) = codes "TooMany"
reason_name (reason.Script script.Unknown) = codes "Unknown"
reason_name (reason.Script script.Twice) = codes "Twice"
reason_name (reason.Script script.Mistyped) = codes "Mistyped"
reason_name (reason.Script script.NotTable) = codes "NotTable"
reason_name (reason.Script script.NotFlat) = codes "NotFlat"
reason_name (reason.Script script.NoOutput) = codes "NoOutput"
reason_name (reason.Script script.BadNumber) = codes "BadNumber"
reason_name (reason.Input row.Header) = codes "Header"
reason_name (reason.Input row.Width) = codes "Width"
reason_name (reason.Input row.NotInt) = codes "NotInt"
reason_name (reason.Input row.NotBool) = codes "NotBool"
reason_name (reason.Input row.Utf8) = codes "Utf8"
reason_name (reason.Trap trap.Overflow) = codes "Overflow"
reason_name (reason.Trap trap.DivideByZero) = codes "DivideByZero"
reason_name (reason.Trap trap.BadIndex) = codes "BadIndex"
reason_name (reason.Trap trap.BadNumber) = codes "BadNumber"
reason_name (reason.Trap trap.NotOne) = codes "NotOne"
reason_name (reason.Plan plan.NotJson) = codes "NotJson"
reason_name (reason.Plan plan.Shape) = codes "Shape"
reason_name (reason.Plan plan.BadStep) = codes "BadStep"
reason_name (reason.Plan plan.Differs) = codes "Differs"

-- the name of each phase of a stage
abbrev pub phase_name : Phase → List ℕ
phase_name Map = codes "map"
phase_name Reduce = codes "reduce"

-- the line of a trap, whose node has that name
abbrev pub trap_line : List ℕ → Kind → Value → List ℕ
trap_line name kind element =
    codes "trap at " ++ (name ++ (codes ": " ++ (reason_name (reason.Trap kind)
    ++ (codes " on " ++ (printed element ++ codes "\n")))))

-- the commands, for one who asks for none of them
abbrev pub usage_line : List ℕ
usage_line =
    codes "usage: flume check S | plan S [--json] | direct S | run S [options] | make START ROWS\n"

abbrev pub place_line : Place → List ℕ
place_line (File name) = codes "write fault: " ++ (quoted name ++ codes "\n")
place_line Screen = []

-- the line of a refusal; a screen that failed gets none, nor does a call that is done, and a trap's
-- line names its node
abbrev pub line_of : Status → List ℕ
line_of Done = []
line_of Usage = usage_line
line_of (Trap origin kind element) = []
line_of (ScriptRefused line kind) =
    codes "script refused at line " ++ (decimal line
    ++ (codes ": " ++ (reason_name (reason.Script kind) ++ codes "\n")))
line_of (InputRefused name row column kind) =
    codes "input refused: " ++ (quoted name ++ (codes " row " ++ (decimal row
    ++ (codes " column " ++ (decimal column ++ (codes ": " ++ (reason_name (reason.Input kind)
    ++ codes "\n")))))))
line_of (ReadFault name) = codes "read fault: " ++ (quoted name ++ codes "\n")
line_of (WriteFault place) = place_line place
line_of (GaveUp stage phase task) =
    codes "gave up at stage " ++ (decimal stage ++ (codes " " ++ (phase_name phase
    ++ (codes " task " ++ (decimal task ++ codes "\n")))))
line_of WantOfMemory = codes "want of memory\n"
line_of (TooLong name limit) =
    codes "too long: " ++ (quoted name ++ (codes " above " ++ (decimal limit ++ codes " bytes\n")))
line_of (NoFile name) = codes "no file: " ++ (quoted name ++ codes "\n")
line_of (PlanRefused step kind) =
    codes "plan refused at step " ++ (decimal step
    ++ (codes ": " ++ (reason_name (reason.Plan kind) ++ codes "\n")))
