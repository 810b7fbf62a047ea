-- A loop that makes a forest: what is made grows beside what is left to make.
use Rattle.std.proofs.Common.{◌≡◌, ℕ, ◌+◌, ◌<◌, ◌≤◌, ◌^◌, List, [], ◌∷◌, ◌++◌, refl, sym, ap, ◌∙◌, arith, suc, append-nil, append_assoc, Option, Some, None}
use Rattle.exec_graph.specs.Forests.{Forest, Bare, Grow, Branch, Twig, label_at, limb, twigs, grown, numbered, new_label, next_after, after_out, with_out}
use Rattle.graph_laws.specs.Joining.{beside}
use Rattle.pardo_fuse.specs.Readers.{Cut}
use Rattle.pardo_fuse.specs.Fusing.{hung, name_for}
use Rattle.pardo_fuse.specs.inner.Naming.{IsNamed, labels, names_from, out_names}
use Rattle.pardo_fuse.specs.declared.names.Name.{Name}

-- ---- side by side

beside_twigs : (b : Branch) (n : ℕ) (ts : List Twig) (rest g : Forest)
    → beside (twigs b n ts rest) g ≡ twigs b n ts (beside rest g)
beside_twigs b n [] rest g = refl
beside_twigs b n (t ∷ ts) rest g =
    ap (λ (f : Forest). Grow (label_at b n t) t.kids f) (beside_twigs b (suc n) ts rest g)

pub beside_limb : (b : Branch) (rest g : Forest) → beside (limb b rest) g ≡ limb b (beside rest g)
beside_limb b rest g = beside_twigs b 0 (b.first ∷ b.more) rest g

beside_bare : (f : Forest) → beside f Bare ≡ f
beside_bare Bare = refl
beside_bare (Grow l kids rest) = ap (λ (f : Forest). Grow l kids f) (beside_bare rest)

beside_more : (f g h : Forest) → beside (beside f g) h ≡ beside f (beside g h)
beside_more Bare g h = refl
beside_more (Grow l kids rest) g h = ap (λ (f : Forest). Grow l kids f) (beside_more rest g h)

pub grown_more : (xs : List Branch) (t : Branch)
    → grown (xs ++ t ∷ []) ≡ beside (grown xs) (limb t Bare)
grown_more [] t = refl
grown_more (x ∷ xs) t = ap (limb x) (grown_more xs t)
    ∙ sym (beside_limb x (grown xs) (limb t Bare))

after_beside : (s : ℕ) (f g : Forest) → next_after s (beside f g) ≡ next_after (next_after s f) g
after_beside s Bare g = refl
after_beside s (Grow l kids rest) g = after_beside (next_after (after_out s l.out) kids) rest g

numbered_beside : (s : ℕ) (f g : Forest)
    → numbered s (beside f g) ≡ beside (numbered s f) (numbered (next_after s f) g)
numbered_beside s Bare g = refl
numbered_beside s (Grow l kids rest) g =
    ap (λ (f : Forest). Grow (new_label s l) (numbered (after_out s l.out) kids) f)
    (numbered_beside (next_after (after_out s l.out) kids) rest g)

names_beside : (h s : ℕ) (f g : Forest)
    → names_from h s (beside f g) ≡ names_from h s f ++ names_from h (next_after s f) g
names_beside h s Bare g = refl
names_beside h s (Grow l kids rest) g =
    let o : List Name = out_names h s l.out in
    let k : List Name = names_from h (after_out s l.out) kids in
    let r : List Name = names_from h (next_after (after_out s l.out) kids) rest in
    let z : List Name = names_from h (next_after (next_after (after_out s l.out) kids) rest) g in
    ap (λ (xs : List Name). o ++ (k ++ xs)) (names_beside h (next_after (after_out s l.out) kids)
    rest g)
    ∙ sym (append_assoc o (k ++ r) z ∙ ap (λ (xs : List Name). o ++ xs) (append_assoc k r z))

labels_beside : (f g : Forest) → labels (beside f g) ≡ labels f + labels g
labels_beside Bare g = omega arith
labels_beside (Grow l kids rest) g = let i = labels_beside rest g in omega arith

pub hung_rest : (b : Cut) (n : ℕ) (over : Option ℕ → Forest) (f rest : Forest)
    → hung b n over f rest ≡ beside (hung b n over f Bare) rest
hung_rest b n over Bare rest = refl
hung_rest b n over (Grow l kids more) rest =
    ap (λ (x : Forest). Grow (with_out (name_for b n l.out) l) (over l.out) x)
    (hung_rest b n over more rest)

pub hung_beside : (b : Cut) (n : ℕ) (over : Option ℕ → Forest) (f g : Forest)
    → hung b n over (beside f g) Bare ≡ beside (hung b n over f Bare) (hung b n over g Bare)
hung_beside b n over Bare g = refl
hung_beside b n over (Grow l kids more) g =
    ap (λ (x : Forest). Grow (with_out (name_for b n l.out) l) (over l.out) x)
    (hung_beside b n over more g)

-- ---- how many numbers are taken

pub out_few : (s : ℕ) (o : Option ℕ) → after_out s o ≤ s + 1
out_few s None = omega arith
out_few s (Some j) = omega arith

pub after_few : (s : ℕ) (f : Forest) → next_after s f ≤ s + labels f
after_few s Bare = omega arith
after_few s (Grow l kids rest) =
    let a = out_few s l.out in
    let b = after_few (after_out s l.out) kids in
    let c = after_few (next_after (after_out s l.out) kids) rest in
    omega arith

-- ---- a loop that makes a forest: `rest` is left of `all`

pub record IsGrowing (lead s : ℕ) (all rest : Forest) (next : ℕ) (first now : List Name)
    (before made : Forest) : Type 0 where
  pub trees : beside made (numbered next rest) ≡ beside before (numbered s all)
  pub last : next_after next rest ≡ next_after s all
  pub names : now ++ names_from lead next rest ≡ first ++ names_from lead s all
  pub few : next + labels rest < 2 ^ 32

pub growing_begun : (lead s : ℕ) (all : Forest) (first : List Name) (before made : Forest)
    → made ≡ before → s + labels all < 2 ^ 32
    → IsGrowing lead s all all s first first before made
growing_begun lead s all first before made e f = record {
  trees = ap (λ (x : Forest). beside x (numbered s all)) e;
  last = refl;
  names = refl;
  few = f;
}

pub growing_step : {lead s next last : ℕ} {all rest : Forest} {first now new : List Name}
    {before made grew : Forest} (one more : Forest)
    → IsGrowing lead s all rest next first now before made → rest ≡ beside one more
    → IsNamed lead one next last now new → grew ≡ beside made (numbered next one)
    → IsGrowing lead s all more last first new before grew
growing_step {lead} {s} {next} {last} {all} {rest} {first} {now} {new} {before} {made} {grew}
    one more w split named g =
    let e : last ≡ next_after next one = named.next in
    record {
      trees = ap (λ (x : Forest). beside x (numbered last more)) g
          ∙ ap (λ (x : ℕ). beside (beside made (numbered next one)) (numbered x more)) e
          ∙ beside_more made (numbered next one) (numbered (next_after next one) more)
          ∙ ap (beside made) (sym (numbered_beside next one more) ∙ ap (numbered next) (sym split))
          ∙ w.trees;
      last = ap (λ (x : ℕ). next_after x more) e ∙ sym (after_beside next one more)
          ∙ ap (next_after next) (sym split) ∙ w.last;
      names = ap (λ (x : List Name). x ++ names_from lead last more) named.names
          ∙ ap (λ (x : ℕ). (now ++ names_from lead next one) ++ names_from lead x more) e
          ∙ append_assoc now (names_from lead next one) (names_from lead (next_after next one) more)
          ∙ ap (λ (x : List Name). now ++ x) (sym (names_beside lead next one more)
          ∙ ap (names_from lead next) (sym split)) ∙ w.names;
      few =
          let u = w.few in
          let a = after_few next one in
          let l : labels rest ≡ labels one + labels more = ap labels split
          ∙ labels_beside one more in
          omega arith;
    }

-- What the next one may take.
pub growing_few : {lead s next : ℕ} {all rest : Forest} {first now : List Name}
    {before made : Forest} (one more : Forest)
    → IsGrowing lead s all rest next first now before made → rest ≡ beside one more
    → next + labels one < 2 ^ 32
growing_few {rest = rest} one more w split =
    let u = w.few in
    let l : labels rest ≡ labels one + labels more = ap labels split ∙ labels_beside one more in
    omega arith

pub growing_made : {lead s next : ℕ} {all rest : Forest} {first now : List Name}
    {before made : Forest} → IsGrowing lead s all rest next first now before made → rest ≡ Bare
    → made ≡ beside before (numbered s all)
growing_made {next = next} {made = made} w e =
    sym (beside_bare made) ∙ ap (λ (x : Forest). beside made (numbered next x)) (sym e) ∙ w.trees

pub growing_named : {lead s next : ℕ} {all rest : Forest} {first now : List Name}
    {before made : Forest} → IsGrowing lead s all rest next first now before made → rest ≡ Bare
    → IsNamed lead all s next first now
growing_named {lead} {next = next} {now = now} w e = record {
  next = ap (next_after next) (sym e) ∙ w.last;
  names = sym (append-nil now) ∙ ap (λ (x : Forest). now ++ names_from lead next x) (sym e)
      ∙ w.names;
}
