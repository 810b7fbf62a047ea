use Rattle.std.proofs.Common.{◌≡◌, ℕ, List, [], ◌++◌, append_assoc, refl, ap, ◌∙◌}
use Rattle.serde_json.proofs.OnLiterals.{serde_json_on_literals}
use Rattle.plan_files.proofs.writing.around.Goals as goal

-- five pieces one behind the other
glued : (none one two three four five a x b y c : List ℕ) → none ≡ [] → one ≡ none ++ a
    → two ≡ one ++ x → three ≡ two ++ b → four ≡ three ++ y → five ≡ four ++ c
    → five ≡ a ++ (x ++ (b ++ (y ++ c)))
glued none one two three four five a x b y c e0 e1 e2 e3 e4 e5 =
    e5 ∙ ap (λ l. l ++ c) (e4 ∙ ap (λ l. l ++ y) (e3 ∙ ap (λ l. l ++ b)
    (e2 ∙ ap (λ l. l ++ x) (e1 ∙ ap (λ l. l ++ a) e0))))
    ∙ simp append_assoc

pub returns : goal.returns
unfolding serde_json_on_literals
returns c = λ d e p q.
    glued c.new-text.result.items c.extend_from_slice.new.self.items
    c.extend_from_slice-2.new.self.items c.extend_from_slice-3.new.self.items
    c.extend_from_slice-4.new.self.items c.push.new.self.items _ c.args.plan.now _
    c.args.rewrites.now _ c.new-text.ensures.items c.in_ok-extend_from_slice.ensures.items
    c.in_ok-extend_from_slice-2.ensures.items c.in_ok-extend_from_slice-3.ensures.items
    c.in_ok-extend_from_slice-4.ensures.items c.in_ok-push.ensures.items
    ∙ rw (p, q) refl
