-- A function that both scripts have, but for lines, is added to states that are alike.
use Rattle.std.proofs.Common.{◌≡◌, ℕ, Bool, true, false, cond, List, [], ◌∷◌, ◌++◌, length, nat_le, Option, Some, None, Ok, refl, sym, ap, ◌∙◌, subst}
use Rattle.std.specs.Str.{bytes_eq}
use Rattle.flume_types.specs.declared.types.Ty.{Ty}
use Rattle.flume_grammar.specs.declared.tree.Type as tree
use Rattle.flume_grammar.specs.declared.tree.Function.{Function as WrittenFunction}
use Rattle.flume_grammar.specs.declared.fault.ScriptKind.TheVariants.{BadNumber, TooMany}
use Rattle.expression_check.specs.Numbers.{number_within}
use Rattle.written_types.specs.Answer.{◌>>=◌, unless}
use Rattle.written_types.specs.Named.{Named, find, fresh}
use Rattle.written_types.specs.Written.{whole_type}
use Rattle.script_keys.specs.Rests.{holds_name}
use Rattle.script_keys.specs.declared.rests.Names.{Names}
use Rattle.script_program.specs.Limits.{most_functions, most_outputs}
use Rattle.script_program.specs.Script.{Function, Signature, State, function_from, with_function}
use Rattle.direct_meaning.specs.of_script_rules.Rules as spec
use Rattle.direct_meaning.proofs.of_script_rules.CheckedLemmas.{both, ok-same}
use Rattle.direct_meaning.proofs.of_script_rules.FoundLemmas.{ruled}
use Rattle.direct_meaning.proofs.of_script_laws.PlaceLemmas.{mapped-kept}
use Rattle.statement_law.specs.Lineless.{function_lineless}
use Rattle.key_meaning.proofs.Alike.{FunctionsMeet, IsAlike, Pairs, SameFunction, node_more}
use Rattle.key_meaning.proofs.Lines.{found, found_option, found_same, found_test, found_then, found_whole}
use Rattle.key_meaning.proofs.Skipping.{callee_more}
use Rattle.key_meaning.proofs.Standing.{found_first, found_later, same_bytes}
use Rattle.key_meaning.proofs.Keeping.{Grown, bytes_itself, fresh-none, grown_at, nothing_grown, same_type}

module _ (SameFile : List ℕ → Type 0) (names : Names) (pairs : Pairs) (s r : State)
    (alike : IsAlike SameFile names pairs s r) (types : s.types ≡ r.types) (line other : ℕ) where
  found_types : (types_found : List Ty) (asked : List tree.Type) (known : Named Ty)
      → found (spec.types_behind line types_found asked known)
      ≡ found (spec.types_behind other types_found asked known)
  found_types types_found [] known = refl
  found_types types_found (type ∷ asked) known =
      found_then (spec.type_behind line types_found type known)
      (spec.type_behind other types_found type known)
      (λ more. spec.types_behind line more asked known)
      (λ more. spec.types_behind other more asked known)
      (found_then (whole_type line type known) (whole_type other type known)
      (λ t. Ok (types_found ++ t ∷ [])) (λ t. Ok (types_found ++ t ∷ []))
      (found_whole line other type known) (λ t. refl))
      (λ more. found_types more asked known)

  found_given : (function : WrittenFunction) (known : Named Ty)
      → found (spec.types_given line function known)
      ≡ found (spec.types_given other function known)
  found_given function known =
      let asked = function.gives ∷ function.more in
      found_then (spec.types_behind line [] asked known)
      (spec.types_behind other [] asked known)
      (λ all. unless line TooMany (nat_le (length all) most_outputs) >>= λ few. Ok all)
      (λ all. unless other TooMany (nat_le (length all) most_outputs) >>= λ few. Ok all)
      (found_types [] asked known)
      (λ all. found_then (unless line TooMany (nat_le (length all) most_outputs))
      (unless other TooMany (nat_le (length all) most_outputs)) (λ few. Ok all) (λ few. Ok all)
      (found_test line other TooMany (nat_le (length all) most_outputs)) (λ few. refl))

  found_scale : (o : Option (List ℕ))
      → found (spec.scale_written line o) ≡ found (spec.scale_written other o)
  found_scale None = refl
  found_scale (Some digits) = found_option line other BadNumber (number_within 0 10000 digits)

  same_signature : (function : WrittenFunction) (x y : Signature)
      → spec.signature_of line function s ≡ Ok x → spec.signature_of other function r ≡ Ok y
      → x ≡ y
  same_signature function x y e f =
      let few = both (spec.room line 1 most_functions s.functions) _ x e in
      let few_ = both (spec.room other 1 most_functions r.functions) _ y f in
      let new = both (fresh line function.name s.functions) _ x few.then in
      let new_ = both (fresh other function.name r.functions) _ y few_.then in
      let takes = both (whole_type line function.takes s.types) _ x new.then in
      let takes_ = both (whole_type other function.takes r.types) _ y new_.then in
      let gives = both (spec.types_given line function s.types) _ x takes.then in
      let gives_ = both (spec.types_given other function r.types) _ y takes_.then in
      let scale = both (spec.scale_written line function.scale) _ x gives.then in
      let scale_ = both (spec.scale_written other function.scale) _ y gives_.then in
      let one =
      same_type SameFile names pairs s r alike types line other function.takes takes.part
      takes_.part takes.first takes_.first in
      let all =
      found_same (spec.types_given line function s.types)
      (spec.types_given other function r.types) gives.part gives_.part
      (ap (λ known. found (spec.types_given line function known)) types
      ∙ found_given function r.types) gives.first gives_.first in
      let many =
      found_same (spec.scale_written line function.scale) (spec.scale_written other function.scale)
      scale.part scale_.part (found_scale function.scale) scale.first scale_.first in
      let here : Signature =
      record { takes = takes.part; gives = gives.part; scale = scale.part } in
      let there : Signature =
      record { takes = takes_.part; gives = gives_.part; scale = scale_.part } in
      let same : here ≡ there = λ i. record { takes = one i; gives = all i; scale = many i } in
      sym (ok-same here x scale.then) ∙ same ∙ ok-same there y scale_.then

  functions_more : (own : List ℕ) (f g : Function) → SameFunction f g
      → find own s.functions ≡ None → find own r.functions ≡ None
      → (name : List ℕ) → holds_name names.functions name ≡ true
      → FunctionsMeet (find name (s.functions ++ (own, f) ∷ []))
      (find name (r.functions ++ (own, g) ∷ []))
  functions_more own f g same none none_ name is = by (bytes_eq name own) refl
    where
      both_new : name ≡ own → FunctionsMeet (find name (s.functions ++ (own, f) ∷ []))
          (find name (r.functions ++ (own, g) ∷ []))
      both_new it =
          let first = found_later own s.functions ((own, f) ∷ []) none
          ∙ ap (λ b. cond b (Some f) None) (bytes_itself own) in
          let second = found_later own r.functions ((own, g) ∷ []) none_
          ∙ ap (λ b. cond b (Some g) None) (bytes_itself own) in
          subst (λ n. FunctionsMeet (find n (s.functions ++ (own, f) ∷ []))
          (find n (r.functions ++ (own, g) ∷ []))) (sym it)
          (subst (λ o. FunctionsMeet (find own (s.functions ++ (own, f) ∷ [])) o) (sym second)
          (subst (λ o. FunctionsMeet o (Some g)) (sym first) same))

      kept : (known : Named Function) (h : Function) → bytes_eq name own ≡ false
          → (o : Option Function) → find name known ≡ o
          → find name (known ++ (own, h) ∷ []) ≡ find name known
      kept known h away (Some x) at =
          found_first name known ((own, h) ∷ []) x at ∙ sym at
      kept known h away None at =
          found_later name known ((own, h) ∷ []) at ∙ ap (λ b. cond b (Some h) None) away
          ∙ sym at

      by : (b : Bool) → bytes_eq name own ≡ b
          → FunctionsMeet (find name (s.functions ++ (own, f) ∷ []))
          (find name (r.functions ++ (own, g) ∷ []))
      by true it = both_new (same_bytes name own it)
      by false it =
          subst (FunctionsMeet (find name (s.functions ++ (own, f) ∷ [])))
          (sym (kept r.functions g it (find name r.functions) refl))
          (subst (λ o. FunctionsMeet o (find name r.functions))
          (sym (kept s.functions f it (find name s.functions) refl))
          (alike.functions name is))

  with_function_alike : (own : List ℕ) (f g : Function) → SameFunction f g
      → find own s.functions ≡ None → find own r.functions ≡ None
      → IsAlike SameFile names pairs (with_function own f s) (with_function own g r)
  with_function_alike own f g same none none_ = record {
    collections = alike.collections;
    functions = functions_more own f g same none none_;
    paired = λ a b among.
        node_more SameFile pairs pairs s.functions r.functions (s.functions ++ (own, f) ∷ [])
        (r.functions ++ (own, g) ∷ []) (λ c d is. is)
        (callee_more s.functions r.functions (s.functions ++ (own, f) ∷ [])
        (r.functions ++ (own, g) ∷ [])
        (λ k function at. mapped-kept (λ (entry : List ℕ × Function). entry.1) s.functions
        ((own, f) ∷ []) k function at)
        (λ k function at. mapped-kept (λ (entry : List ℕ × Function). entry.1) r.functions
        ((own, g) ∷ []) k function at))
        s.nodes s.nodes r.nodes r.nodes (λ k entry at. at) (λ k entry at. at) a b
        (alike.paired a b among);
  }

-- functions that differ in lines alone
pub record SameWritten (f g : WrittenFunction) : Type 0 where
  pub name : f.name ≡ g.name
  pub argument : f.argument ≡ g.argument
  pub takes : f.takes ≡ g.takes
  pub gives : f.gives ≡ g.gives
  pub more : f.more ≡ g.more
  pub scale : f.scale ≡ g.scale
  pub body : (function_lineless f).body ≡ (function_lineless g).body

same_written : (f g : WrittenFunction) → function_lineless f ≡ function_lineless g
    → SameWritten f g
same_written f g same = record {
  name = λ i. (same i).name;
  argument = λ i. (same i).argument;
  takes = λ i. (same i).takes;
  gives = λ i. (same i).gives;
  more = λ i. (same i).more;
  scale = λ i. (same i).scale;
  body = λ i. (same i).body;
}

-- the function with another body
abbrev with_body : WrittenFunction → WrittenFunction → WrittenFunction
with_body f g = record f { body = g.body }

module _ (SameFile : List ℕ → Type 0) (names : Names) (pairs : Pairs) (s r : State)
    (alike : IsAlike SameFile names pairs s r) (types : s.types ≡ r.types) (line other : ℕ) where
  like_grown : (f g : WrittenFunction)
      → (function_lineless f).body ≡ (function_lineless g).body → (after behind : State)
      → spec.rule_function line f s ≡ Ok after
      → spec.rule_function other (with_body f g) r ≡ Ok behind
      → Grown SameFile names pairs s r after behind
  like_grown f g bodies after behind e h =
      let g_ = with_body f g in
      let one = ruled line f s after e in
      let two = ruled other g_ r behind h in
      let x = one.signature in
      let y = two.signature in
      let few = both (spec.room line 1 most_functions s.functions) _ x one.signed in
      let few_ = both (spec.room other 1 most_functions r.functions) _ y two.signed in
      let new = both (fresh line f.name s.functions) _ x few.then in
      let new_ = both (fresh other f.name r.functions) _ y few_.then in
      let here = with_function f.name (function_from f x s) s in
      let there = with_function f.name (function_from g_ y r) r in
      grown_at SameFile names pairs s r here after there behind one.is two.is
      (nothing_grown SameFile names pairs s r alike types line other here there refl refl
      (with_function_alike SameFile names pairs s r alike types line other f.name
      (function_from f x s) (function_from g_ y r)
      (record {
        types = types;
        argument = refl;
        signature =
            same_signature SameFile names pairs s r alike types line other f x y one.signed
            two.signed;
        body = bodies;
      })
      (fresh-none SameFile names pairs s r alike types line other line f.name s.functions
      new.part new.first)
      (fresh-none SameFile names pairs s r alike types line other other f.name r.functions
      new_.part new_.first))
      types)

  pub function_grown : (f g : WrittenFunction) → function_lineless f ≡ function_lineless g
      → (after behind : State) → spec.rule_function line f s ≡ Ok after
      → spec.rule_function other g r ≡ Ok behind → Grown SameFile names pairs s r after behind
  function_grown f g same after behind e h =
      let it = same_written f g same in
      let whole : with_body f g ≡ g = λ i. record {
        name = it.name i;
        argument = it.argument i;
        takes = it.takes i;
        gives = it.gives i;
        more = it.more i;
        scale = it.scale i;
        body = g.body;
      } in
      like_grown f g it.body after behind e
      (ap (λ (w : WrittenFunction). spec.rule_function other w r) whole ∙ h)
