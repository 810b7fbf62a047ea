-- What rules that find no fault have found: those of a function, and of a let with repeat.
use Rattle.std.proofs.Common.{◌≡◌, ℕ, List, length, drop, Ok, ap, ◌∙◌}
use Rattle.flume_grammar.specs.declared.tree.Function.{Function as Written}
use Rattle.flume_grammar.specs.declared.tree.Repeat.{Repeat as WrittenRepeat}
use Rattle.script_program.specs.of_body_check.Bodies.{body_of}
use Rattle.script_program.specs.Script.{Signature, State, function_from, with_front, with_function}
use Rattle.script_rules.specs.Repeats.{Repeat}
use Rattle.script_rules.specs.Rules as spec
use Rattle.script_rules.proofs.CheckedLemmas.{both, ok-same}

-- a function's signature, of which its body keeps the rules
pub record HasRuled (line : ℕ) (function : Written) (s after : State) : Type 0 where
  pub signature : Signature
  pub signed : spec.signature_of line function s ≡ Ok signature
  pub kept : Unit {0}
  pub typed : body_of s.types function.argument signature.takes signature.gives function.body
      ≡ Ok kept
  pub is : with_function function.name (function_from function signature s) s ≡ after

pub ruled : (line : ℕ) (function : Written) (s after : State)
    → spec.rule_function line function s ≡ Ok after → HasRuled line function s after
ruled line function s after e =
    let signature = both (spec.signature_of line function s) _ after e in
    let takes = signature.part.takes in
    let gives = signature.part.gives in
    let body =
    both (body_of s.types function.argument takes gives function.body) _ after
    signature.then in
    record {
      signature = signature.part;
      signed = signature.first;
      kept = body.part;
      typed = body.first;
      is = ok-same _ after body.then;
    }

module _ (line : ℕ) (names : List (List ℕ)) (written : WrittenRepeat) (s : State) where
  -- the state in front of the body, for what enters
  abbrev pub before : spec.Entry → State
  before entry = spec.entering_state names written.entering entry.from s

  -- the repeat of what enters, of the state behind the body, and of what is given
  abbrev pub own : spec.Entry → State → List ℕ → Repeat
  own entry body gives =
      spec.repeat_from entry gives (length s.nodes) (length (before entry).nodes) body

  -- what the rules behind the body find
  pub record HasRepeat (entry : spec.Entry) (body : State) (it : Repeat) : Type 0 where
    pub gives : List ℕ
    pub given : spec.repeat_gives line written.gives entry.from body ≡ Ok gives
    pub few : Unit {0}
    pub room : spec.room_for line (length s.nodes) entry.turns
        (length (drop (length (before entry).nodes) body.nodes)) ≡ Ok few
    pub repeat : own entry body gives ≡ it

  pub record HasFound (it : spec.Repeated) : Type 0 where
    pub entry : spec.Entry
    pub enters : spec.repeat_entry line names written s ≡ Ok entry
    pub body : State
    pub lets : spec.all_named written.lets (before entry) ≡ Ok body
    pub found_behind : HasRepeat entry body it.repeat
    pub open found_behind use *
    pub behind : with_front (length s.nodes) body ≡ it.behind

  pub found : (it : spec.Repeated) → spec.repeated line names written s ≡ Ok it → HasFound it
  found it e =
      let entry = both (spec.repeat_entry line names written s) _ it e in
      let body = both (spec.all_named written.lets (before entry.part)) _ it entry.then in
      let front = length (before entry.part).nodes in
      let outside = length s.nodes in
      let repeat =
      both (spec.repeat_of line written.gives entry.part outside front body.part) _ it
      body.then in
      let gives =
      both (spec.repeat_gives line written.gives entry.part.from body.part) _ repeat.part
      repeat.first in
      let room =
      both
      (spec.room_for line outside entry.part.turns (length (drop front body.part.nodes))) _
      repeat.part gives.then in
      let same = ok-same _ it repeat.then in
      record {
        entry = entry.part;
        enters = entry.first;
        body = body.part;
        lets = body.first;
        found_behind = record {
          gives = gives.part;
          given = gives.first;
          few = room.part;
          room = room.first;
          repeat =
              ok-same _ repeat.part room.then ∙ ap (λ (it : spec.Repeated). it.repeat) same;
        };
        behind = ap (λ (it : spec.Repeated). it.behind) same;
      }
