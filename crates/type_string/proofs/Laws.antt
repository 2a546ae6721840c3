-- Laws of the writers of types and brands: one for each turn of the code, over what is read, the sheet, and the texts and
-- refusals that were met. Assumes nothing.
use mathlib.Core.Path.{◌≡◌, refl, sym, ap}
use mathlib.Core.List.{List, [], ◌∷◌, ◌++◌}
use Rattle.std.specs.Prelude.{Option, None, Some, Result, Ok, Err}
use Prim.Native.Nat.{ℕ, ◌-◌, ◌<◌, ◌≤◌}
use native.Mathlib.Omega.{arith}
use borrow.Author.Tests.{eq-eqb, ne_eqb}
use lib.Dec.{eqb}
use lib.ListN.{length, replicate}
use Rattle.text.specs.Bytes.{Str, ascii, unit, cond}
use Rattle.text.specs.Text.{Wrote}
use Rattle.text.specs.declared.Text.{Text}
use Rattle.text.proofs.Laws.{◌⨾◌}
use Rattle.row.specs.Rows.{rest_of}
use Rattle.row.specs.Line.{good_said, line_said, line_at, fault_of, misplaced}
use Rattle.row.specs.declared.BadLine.{BadLine}
use Rattle.row.specs.declared.Line.{Line}
use Rattle.row.specs.declared.Line.TheVariants.{Scope, Unbound}
use Rattle.tree.specs.Tree.{bound, list, struct, Scopes, end, Binds, stop, Sheet}
use Rattle.tree.specs.Reader.{Rows, Reading, got, no, map_r, times, On, Has}
use Rattle.tree.specs.Read as read
use Rattle.tree.specs.Read.{read_type, type_from, read_binding}
use Rattle.tree.proofs.OtherLines.{not_scope-tag, not_unbound-tag}
use Rattle.tree.proofs.WalkLaws.{by_told}
use Rattle.nodes.specs.Index.{names_of}
use Rattle.terms.specs.Refusals.{number}
use Rattle.terms.specs.declared.refusals.Refusal.{Refusal}
use Rattle.terms.specs.declared.refusals.Refusal.TheVariants.{BindingsDiffer}
use Rattle.codegen_types.specs.Out.{Out, ok, refused, ◌then◌}
use Rattle.codegen_types.specs.Leaf.{bare_name, display, lifetime_comma, maybe_colons, leaf_arguments}
use Rattle.codegen_types.specs.TypeString as type_string
use Rattle.codegen_types.specs.TypeString.{type_string, do_branding, scopes_of, bindings_of, all_of, arguments_of}
use Rattle.codegen_types.specs.TypeString.{accumulate, outermost_first, angled, any_owned, list_string, list_module}
use Rattle.codegen_types.specs.TypeString.{element_leaf, get_qualified_module}
use Rattle.codegen_types.specs.Written.{Writes}
use Rattle.codegen_types.specs.declared.Leaf.{Leaf}
use Rattle.codegen_types.specs.declared.Leaf.TheVariants.{Owned}
use Rattle.codegen_types.proofs.WrittenLaws.{whole, refused-text, text-of, refusal-is, stops}
use Rattle.types.specs.Find.{Past, ScopeAt, ScopeHere, first_scope}
use Rattle.types.proofs.ScopeLaws.{scope-there}
use Rattle.types.proofs.Laws.{on-map, on_one, on-all}
use Rattle.types.proofs.TypeLaws as read-law
use Rattle.types.proofs.TypeLaws.{list_of, times_none, binds-more, binds-length, scope-inherit, scope-binds, scope-not}
use Rattle.type_parts.specs.Parts.{Lists, Listed, Opened, closer}
use Rattle.type_parts.specs.declared.Arguments.{Arguments}
use Rattle.type_parts.proofs.Laws as parts
use Rattle.type_parts.proofs.Laws.{listed-none, listed_cons, all_listed, not_listed, map-replicate}
use Rattle.type_string.specs.Told.{outward, only_of}

-- a refusal and none at once
pub clash : {A : Type 0} {k : ℕ} → ◌≡◌ {A = Option ℕ} None (Some k) → A
clash e = absurd cc

-- ---- what an answer tells of arguments

-- they are given, and written
record Arguments_of (o : Out (List Str)) (l : List ℕ) (p : Arguments) (l' : List ℕ) (q : Arguments) : Type 0 where
  texts : List Str
  is : o ≡ ok texts
  listed : Listed l p texts l' q

arguments-are : {l : List ℕ} {p : Arguments} {l' : List ℕ} {q : Arguments} (o : Out (List Str)) → Lists o l p l' (Ok q)
    → Arguments_of o l p l' q
arguments-are (ok ws) h = record { texts = ws; is = refl; listed = h.listed ws _ refl refl }
arguments-are (refused k) h = clash h.refusal

-- they are refused
arguments-not : {l : List ℕ} {p : Arguments} {l' : List ℕ} {e : Refusal} (o : Out (List Str)) → Lists o l p l' (Err e)
    → o ≡ refused (number e)
arguments-not (ok ws) h = clash (sym h.refusal)
arguments-not (refused k) h = let e = h.refusal in cc

-- ---- lists

module _ (sheet : Sheet) (leaf : Leaf) (left k a b c : ℕ) (rest : Rows) where
  module _ {l : List ℕ} {t : Text} {l' : List ℕ} {r : Result Text Refusal} where
    pub list-text : k ≡ 12 → Writes (ok (sheet.root ++ ascii "::text_list::" ++ display leaf)) l t l' r
        → On (type_from (read_type left) k a b c rest) (λ ty. Writes (type_string (list ty) sheet leaf) l t l' r)
    unfolding list_string
    list-text z w = list_of sheet leaf left k a b c rest (λ o. Writes o l t l' r) (omega arith)
        (on-all {P = λ ty. Writes (list_string sheet.root leaf k (type_string ty sheet (element_leaf k))) l t l' r}
        (λ ty. rw (eq-eqb k 12 z) w) (type_from (read_type left) k a b c rest))

    pub list-data : k ≡ 13 → Writes (ok (sheet.root ++ ascii "::data_list::" ++ display leaf)) l t l' r
        → On (type_from (read_type left) k a b c rest) (λ ty. Writes (type_string (list ty) sheet leaf) l t l' r)
    unfolding list_string
    list-data z w = list_of sheet leaf left k a b c rest (λ o. Writes o l t l' r) (omega arith)
        (on-all {P = λ ty. Writes (list_string sheet.root leaf k (type_string ty sheet (element_leaf k))) l t l' r}
        (λ ty. rw (ne_eqb k 12 (λ y. omega arith), eq-eqb k 13 z) w) (type_from (read_type left) k a b c rest))

  -- what a list writes before its element
  abbrev head : Str
  head = sheet.root ++ ascii "::" ++ list_module k ++ ascii "::" ++ bare_name leaf ++ ascii "<" ++ lifetime_comma leaf

  -- a list of another element, whose text is written after that, or refused
  module _ (e : Leaf) (x : k ≡ 12 → ⊥) (y : k ≡ 13 → ⊥) (z : k < 18) (i : e ≡ element_leaf k) (l : List ℕ) (t : Text)
      (l₁ : List ℕ) (t₁ : Text) (l₂ : List ℕ) where
    inner : (r r' : Result Text Refusal) (l₃ : List ℕ)
        → ((o : Out Str) → Writes o l₁ t₁ l₂ r → Writes (o then λ w. ok (head ++ w ++ ascii ">")) l t l₃ r')
        → On (type_from (read_type left) k a b c rest) (λ ty. Writes (type_string ty sheet e) l₁ t₁ l₂ r)
        → On (type_from (read_type left) k a b c rest) (λ ty. Writes (type_string (list ty) sheet leaf) l t l₃ r')
    unfolding list_string
    inner r r' l₃ f h =
        list_of sheet leaf left k a b c rest (λ o. Writes o l t l₃ r') z
        (on_one (λ ty. Writes (type_string ty sheet e) l₁ t₁ l₂ r)
        (λ ty. Writes (list_string sheet.root leaf k (type_string ty sheet (element_leaf k))) l t l₃ r')
        (type_from (read_type left) k a b c rest)
        (λ ty v. rw (ne_eqb k 12 x, ne_eqb k 13 y, ne_eqb k 18 (λ j. omega arith))
        (f (type_string ty sheet (element_leaf k)) (rw i at v))) h)

    pub list-inner : (t₂ : Text) (l₃ : List ℕ) (t₃ : Text) → Wrote l t head l₁ t₁ → Wrote l₂ t₂ (unit 62) l₃ t₃
        → On (type_from (read_type left) k a b c rest) (λ ty. Writes (type_string ty sheet e) l₁ t₁ l₂ (Ok t₂))
        → On (type_from (read_type left) k a b c rest) (λ ty. Writes (type_string (list ty) sheet leaf) l t l₃ (Ok t₃))
    list-inner t₂ l₃ t₃ front tail =
        inner (Ok t₂) (Ok t₃) l₃ (λ o v. let w = text-of o v in rw w.is (whole (front ⨾ w.wrote ⨾ tail)))

    pub list-refused : (j : Refusal)
        → On (type_from (read_type left) k a b c rest) (λ ty. Writes (type_string ty sheet e) l₁ t₁ l₂ (Err j))
        → On (type_from (read_type left) k a b c rest) (λ ty. Writes (type_string (list ty) sheet leaf) l t l₂ (Err j))
    list-refused j = inner (Err j) (Err j) l₂ (λ o v. stops o _ v)

-- ---- a brand

module _ (sheet : Sheet) (leaf : Leaf) (id : ℕ) (read : Reading Scopes) (l : List ℕ) (t : Text) (l₁ : List ℕ) where
  pub brand-none : (e : Refusal) → Writes (get_qualified_module sheet id) l t l₁ (Err e)
      → On read (λ ss. Writes (type_string (struct id ss) sheet leaf) l t l₁ (Err e))
  unfolding type_string
  brand-none e m = on-all {P = λ ss. Writes (type_string (struct id ss) sheet leaf) l t l₁ (Err e)}
      (λ ss. stops (get_qualified_module sheet id) (do_branding sheet id (scopes_of ss sheet) leaf) m) read

  -- the arguments, after the module and the leaf
  module _ (u : Text) (m : Writes (get_qualified_module sheet id) l t l₁ (Ok u)) (l₂ : List ℕ) (p : Arguments) (l₃ : List ℕ)
    where
      branded : (r : Result Arguments Refusal) (r' : Result Text Refusal) (l₄ : List ℕ)
          → ((the_mod : Str) → Wrote l t the_mod l₁ u → (o : Out (List (List Str))) → Lists (outward o) l₂ p l₃ r
          → Writes (o then λ acc. ok (the_mod ++ ascii "::" ++ bare_name leaf ++ maybe_colons leaf ++ angled
          (leaf_arguments leaf ++ outermost_first acc))) l t l₄ r')
          → On read (λ ss. Lists (outward (accumulate sheet (scopes_of ss sheet) 16 id)) l₂ p l₃ r)
          → On read (λ ss. Writes (type_string (struct id ss) sheet leaf) l t l₄ r')
      unfolding type_string do_branding
      branded r r' l₄ f h =
          let w = text-of (get_qualified_module sheet id) m in
          on_one (λ ss. Lists (outward (accumulate sheet (scopes_of ss sheet) 16 id)) l₂ p l₃ r)
          (λ ss. Writes (type_string (struct id ss) sheet leaf) l t l₄ r') read
          (λ ss g. rw w.is (f w.text w.wrote (accumulate sheet (scopes_of ss sheet) 16 id) g)) h

      pub brand-refused : (e : Refusal)
          → On read (λ ss. Lists (outward (accumulate sheet (scopes_of ss sheet) 16 id)) l₂ p l₃ (Err e))
          → On read (λ ss. Writes (type_string (struct id ss) sheet leaf) l t l₃ (Err e))
      brand-refused e = branded (Err e) (Err e) l₃ (λ the_mod w o g. go _ o g)
        where
          go : (f : List (List Str) → Str) (o : Out (List (List Str))) → Lists (outward o) l₂ p l₃ (Err e)
              → Writes (o then λ acc. ok (f acc)) l t l₃ (Err e)
          go f (ok acc) g = clash (sym g.refusal)
          go f (refused k) g = let i = g.refusal in refused-text cc

      pub brand-on : (q : Arguments) (l₄ : List ℕ) (t₄ : Text) → Opened l₁ u leaf l₂ p
          → Wrote l₃ q.text (closer q.sep) l₄ t₄
          → On read (λ ss. Lists (outward (accumulate sheet (scopes_of ss sheet) 16 id)) l₂ p l₃ (Ok q))
          → On read (λ ss. Writes (type_string (struct id ss) sheet leaf) l t l₄ (Ok t₄))
      brand-on q l₄ t₄ o c = branded (Ok q) (Ok t₄) l₄ go
        where
          go : (the_mod : Str) → Wrote l t the_mod l₁ u → (d : Out (List (List Str))) → Lists (outward d) l₂ p l₃ (Ok q)
              → Writes (d then λ acc. ok (the_mod ++ ascii "::" ++ bare_name leaf ++ maybe_colons leaf ++ angled
              (leaf_arguments leaf ++ outermost_first acc))) l t l₄ (Ok t₄)
          go the_mod m (ok acc) g = whole (parts.branded leaf (outermost_first acc) m o (parts.listed_of g) c)
          go the_mod m (refused k) g = clash g.refusal

-- ---- one node's own arguments

-- a bad line is no scope
scope-bad : (left : ℕ) (sheet : Sheet) (rs : Rows) (o : Option type_string.Scope) (b : BadLine) → line_said (Err b) ≡ line_at rs
    → ScopeHere left sheet rs o → ⊥
unfolding line_said ScopeHere read.read_scope
scope-bad left sheet rs o b at h =
    by_told {A = Scopes → Scopes} (λ g. Has g (λ f. o ≡ first_scope (scopes_of (f end) sheet)) → ⊥) (fault_of 83 (line_at rs))
    (no misplaced) rs (λ k z. z) (λ z. z) (rw (← at) at h)

module _ (left : ℕ) (sheet : Sheet) (q ps : Rows) (own : ℕ) (count : own ≡ length (names_of ps)) (l : List ℕ) (p : Arguments)
    (l' : List ℕ) (o : Option type_string.Scope) (here : ScopeAt left sheet q o) where
  pub own_other : (line : Result Line BadLine) → line_said line ≡ line_at q
      → ((i : ℕ) (n : Option ℕ) → line ≡ Ok (Scope i n) → ⊥)
      → (r : Arguments) → Listed l p (replicate own (any_owned sheet.root)) l' r
      → Lists (arguments_of sheet.root (names_of ps) o) l p l' (Ok r)
  unfolding arguments_of line_said
  own_other line at other r w = go q line at other here
    where
      go : (q : Rows) (line : Result Line BadLine) → line_said line ≡ line_at q
          → ((i : ℕ) (n : Option ℕ) → line ≡ Ok (Scope i n) → ⊥)
          → ScopeAt left sheet q o → Lists (arguments_of sheet.root (names_of ps) o) l p l' (Ok r)
      go [] line e other h = rw (h, map-replicate (any_owned sheet.root) (names_of ps), ← count) (all_listed w)
      go (x ∷ rs) (Ok f) e other h =
          absurd (scope-not left sheet (x ∷ rs) o f e (not_scope-tag f (λ i n y. other i n (ap Ok y))) h)
      go (x ∷ rs) (Err b) e other h = absurd (scope-bad left sheet (x ∷ rs) o b e h)

  module _ (line : Result Line BadLine) (said : line_said line ≡ line_at q) (i : ℕ) (bindings : Option ℕ)
      (is : line ≡ Ok (Scope i bindings)) where
    at : good_said (Scope i bindings) ≡ line_at q
    unfolding line_said
    at = rw is at said

    pub own-inherit : bindings ≡ None → (r : Arguments) → Listed l p (names_of ps) l' r
        → Lists (arguments_of sheet.root (names_of ps) o) l p l' (Ok r)
    unfolding arguments_of
    own-inherit z r w = let y : o ≡ Some type_string.inherited =
        scope-inherit left sheet q o (Scope i bindings) i at (ap (Scope i) z)
        (scope-there left sheet q o (Scope i bindings) i bindings at refl here) in
        rw y (all_listed w)

    module _ (rest : Rows) (next : rest ≡ rest_of q) (m : ℕ) (z : bindings ≡ Some m) where
      by-binds : (Q : Out (List Str) → Type 0) → On (times (read_binding (read_type left)) stop m rest)
          (λ bs. Q (cond (eqb m own) (all_of (bindings_of bs sheet)) (refused 8)))
          → Q (arguments_of sheet.root (names_of ps) o)
      unfolding arguments_of
      by-binds Q u = go (times (read_binding (read_type left)) stop m rest) o
          (scope-binds left sheet q rest o (Scope i bindings) i m at (ap (Scope i) z) next
          (scope-there left sheet q o (Scope i bindings) i bindings at refl here)) u
          (binds-length left sheet m rest)
        where
          go : (g : Reading Binds) (o : Option type_string.Scope)
              → Has g (λ bs. o ≡ Some (type_string.binds (bindings_of bs sheet)))
              → On g (λ bs. Q (cond (eqb m own) (all_of (bindings_of bs sheet)) (refused 8)))
              → On g (λ bs. length (bindings_of bs sheet) ≡ m) → Q (arguments_of sheet.root (names_of ps) o)
          go (got bs k) o w v y = rw (w, y, ← count) v
          go (no j k) o w v y = absurd w

      pub own-8 : (m ≡ own → ⊥) → Lists (arguments_of sheet.root (names_of ps) o) l p l' (Err BindingsDiffer)
      own-8 y = by-binds (λ a. Lists a l p l' (Err BindingsDiffer))
          (on-all {P = λ bs. Lists (cond (eqb m own) (all_of (bindings_of bs sheet)) (refused 8)) l p l' (Err BindingsDiffer)}
          (λ bs. rw (ne_eqb m own y) (not_listed refl)) (times (read_binding (read_type left)) stop m rest))

      pub own-binds : m ≡ own → (r : Result Arguments Refusal)
          → On (times (read_binding (read_type left)) stop m rest) (λ bs. Lists (all_of (bindings_of bs sheet)) l p l' r)
          → Lists (arguments_of sheet.root (names_of ps) o) l p l' r
      own-binds y r u = by-binds (λ a. Lists a l p l' r) (rw (eq-eqb m own y) u)

-- ---- bindings

pub binds-none : (sheet : Sheet) (left n : ℕ) (rs : Rows) (l : List ℕ) (p : Arguments) → n ≤ 0
    → On (times (read_binding (read_type left)) stop n rs) (λ bs. Lists (all_of (bindings_of bs sheet)) l p l (Ok p))
unfolding all_of bindings_of
binds-none sheet left n rs l p h = rw (times_none (read_binding (read_type left)) stop n rs h) (all_listed (listed-none l p))

abbrev args : Text → ℕ → Arguments
args t b = record { text = t; sep = b }

module _ (sheet : Sheet) (left n : ℕ) (rs rest : Rows) (more : 0 < n) (past : Past rs 1 rest) (l : List ℕ) (p : Arguments)
    (l₁ : List ℕ) (t₁ : Text) (l₂ : List ℕ) where
  pub binds-on : (t₂ : Text) (l' : List ℕ) (r : Result Arguments Refusal) → Wrote l p.text (unit p.sep) l₁ t₁
      → On (read_binding (read_type left) rs) (λ f. Writes (only_of (bindings_of (f stop) sheet)) l₁ t₁ l₂ (Ok t₂))
      → On (times (read_binding (read_type left)) stop (n - 1) rest)
      (λ bs. Lists (all_of (bindings_of bs sheet)) l₂ (args t₂ 44) l' r)
      → On (times (read_binding (read_type left)) stop n rs) (λ bs. Lists (all_of (bindings_of bs sheet)) l p l' r)
  unfolding all_of
  binds-on t₂ l' r a one h =
      binds-more left n rs rest more past (λ f. Writes (only_of (bindings_of (f stop) sheet)) l₁ t₁ l₂ (Ok t₂))
      (λ bs. Lists (all_of (bindings_of bs sheet)) l₂ (args t₂ 44) l' r)
      (λ bs. Lists (all_of (bindings_of bs sheet)) l p l' r) one h
      (λ f o u bs v. rw (o.first sheet bs) (go (o.text sheet) (all_of (bindings_of bs sheet)) (rw (o.first sheet stop) at u)
      r v))
    where
      go : (o : Out Str) (os : Out (List Str)) → Writes o l₁ t₁ l₂ (Ok t₂) → (r : Result Arguments Refusal)
          → Lists os l₂ (args t₂ 44) l' r → Lists (o then λ x. os then λ xs. ok (x ∷ xs)) l p l' r
      go o os g (Ok q) v =
          let w = text-of o g in
          let s = arguments-are os v in
          rw (w.is, s.is) (all_listed (listed_cons (a ⨾ w.wrote) s.listed))
      go o os g (Err e) v = let w = text-of o g in rw (w.is, arguments-not os v) (not_listed refl)

  pub binds-stop : (e : Refusal)
      → On (read_binding (read_type left) rs) (λ f. Writes (only_of (bindings_of (f stop) sheet)) l₁ t₁ l₂ (Err e))
      → On (times (read_binding (read_type left)) stop n rs) (λ bs. Lists (all_of (bindings_of bs sheet)) l p l₂ (Err e))
  unfolding all_of
  binds-stop e one =
      binds-more left n rs rest more past (λ f. Writes (only_of (bindings_of (f stop) sheet)) l₁ t₁ l₂ (Err e))
      (λ bs. Unit {0}) (λ bs. Lists (all_of (bindings_of bs sheet)) l p l₂ (Err e)) one
      (on-all {P = λ bs. Unit {0}} (λ bs. tt) (times (read_binding (read_type left)) stop (n - 1) rest))
      (λ f o u bs v. rw (o.first sheet bs, refusal-is (o.text sheet) (rw (o.first sheet stop) at u)) (not_listed refl))

-- one binding: a U row, or a type
module _ (sheet : Sheet) (left : ℕ) (rs : Rows) (said : Result Line BadLine) (at : line_said said ≡ line_at rs) (l : List ℕ)
    (t : Text) (l' : List ℕ) where
  pub bind-unbound : (u : Text) → said ≡ Ok Unbound → Wrote l t (any_owned sheet.root) l' u
      → On (read_binding (read_type left) rs) (λ f. Writes (only_of (bindings_of (f stop) sheet)) l t l' (Ok u))
  unfolding bindings_of line_said
  bind-unbound u is w =
      read-law.bind-unbound left rs (λ f. Writes (only_of (bindings_of (f stop) sheet)) l t l' (Ok u)) Unbound (rw is at at) refl
      (whole w)

  pub bind-typed : (r : Result Text Refusal) → (said ≡ Ok Unbound → ⊥)
      → On (read_type left rs) (λ ty. Writes (type_string ty sheet Owned) l t l' r)
      → On (read_binding (read_type left) rs) (λ f. Writes (only_of (bindings_of (f stop) sheet)) l t l' r)
  unfolding bindings_of line_said read_binding
  bind-typed r other h = go said at other
    where
      go : (said : Result Line BadLine) → line_said said ≡ line_at rs → (said ≡ Ok Unbound → ⊥)
          → On (read_binding (read_type left) rs) (λ f. Writes (only_of (bindings_of (f stop) sheet)) l t l' r)
      go (Ok f) e other = read-law.bind-typed left rs (λ f. Writes (only_of (bindings_of (f stop) sheet)) l t l' r) f e
          (not_unbound-tag f (λ y. other (ap Ok y))) h
      go (Err b) e other =
          rw (← e)
          (by_told (λ g. On g (λ f. Writes (only_of (bindings_of (f stop) sheet)) l t l' r)) (fault_of 85 (line_at rs))
          (map_r (λ t bs. bound t bs) (read_type left)) rs (λ k. tt)
          (on-map (λ t bs. bound t bs) (λ f. Writes (only_of (bindings_of (f stop) sheet)) l t l' r) (read_type left rs) h))
