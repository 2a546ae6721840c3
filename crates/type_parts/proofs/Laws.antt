-- Laws of the parts of a type's text: texts in other groupings, arguments one after the other. Assumes nothing.
use mathlib.Core.Path.{◌≡◌, refl, sym, ap, ◌∙◌, subst}
use mathlib.Core.List.{List, [], ◌∷◌, ◌++◌, append_assoc, append-nil, map}
use Rattle.std.specs.Prelude.{Option, None, Some, Result, Ok, Err}
use Prim.Native.Nat.{ℕ, zero, suc, ◌-◌, ◌<◌}
use native.Mathlib.Numerals.{sub-one}
use native.Mathlib.Omega.{arith}
use lib.ListN.{length, drop, replicate}
use Rattle.text.specs.Bytes.{Str, ascii, unit}
use Rattle.text.specs.Lines.{join}
use Rattle.text.specs.Text.{put, adv, Wrote}
use Rattle.text.specs.declared.Text.{Text}
use Rattle.text.proofs.Laws.{◌⨾◌}
use Rattle.row.specs.Rows.{rows}
use Rattle.row.specs.Line.{text_at}
use Rattle.tree.specs.Tree.{Node, Sheet, parameter}
use Rattle.codegen_types.specs.TypeString.{type_string, get_qualified_module, parameter_name, parameter_string, angled}
use Rattle.codegen_types.specs.Leaf.{bare_name, maybe_colons, leaf_arguments}
use Rattle.codegen_types.specs.declared.Leaf.{Leaf}
use Rattle.codegen_types.specs.declared.Leaf.TheVariants.{Reader, Builder, Owned, Client, Server, ServerDispatch, Pipeline}
use Rattle.codegen_types.specs.declared.Leaf.TheVariants.{GetType}
use Rattle.codegen_types.specs.declared.Lifetime.{Lifetime}
use Rattle.terms.specs.Refusals.{number}
use Rattle.terms.specs.declared.refusals.Refusal.{Refusal}
use Rattle.codegen_types.specs.Out.{Out, ok, refused, or_refused, ◌then◌}
use Rattle.codegen_types.proofs.WrittenLaws.{ok-one, not-ok}
use Rattle.codegen_types.proofs.NodeLaws.{node_missing, node-there, parameter-named}
use Rattle.nodes.specs.Index.{nth, lookup, Indexed, EntryIs, NameAt}
use Rattle.nodes.specs.declared.Entry.{Entry}
use Rattle.type_parts.specs.Parts.{listed, sep_after, closer, Listed, Lists, Opened}
use Rattle.type_parts.specs.declared.Arguments.{Arguments}

-- ---- texts in other groupings

pub in_three : {l : List ℕ} {t : Text} {l' : List ℕ} {u : Text} (x a b c : Str)
    → Wrote l t (x ++ (a ++ b ++ c)) l' u → Wrote l t (x ++ a ++ b ++ c) l' u
in_three {l} {t} {l'} {u} x a b c h = subst (λ (w : Str). Wrote l t w l' u) (same x a b c) h
  where
    same : (x a b c : Str) → x ++ (a ++ b ++ c) ≡ x ++ a ++ b ++ c
    same x a b c = simp append_assoc

pub three_threes : {l : List ℕ} {t : Text} {l' : List ℕ} {t' : Text} (x a b c d e f : Str)
    → Wrote l t (x ++ (a ++ b ++ c) ++ (d ++ e ++ f)) l' t' → Wrote l t (x ++ a ++ b ++ c ++ d ++ e ++ f) l' t'
three_threes {l} {t} {l'} {t'} x a b c d e f h = subst (λ (w : Str). Wrote l t w l' t') (same x a b c d e f) h
  where
    same : (x a b c d e f : Str) → x ++ (a ++ b ++ c) ++ (d ++ e ++ f) ≡ x ++ a ++ b ++ c ++ d ++ e ++ f
    same x a b c d e f = simp append_assoc

-- a leaf under which a parameter is refused
pub refused-leaf : (root p : Str) (leaf : Leaf) → ((lt : Lifetime) → leaf ≡ Reader lt → ⊥)
    → ((lt : Lifetime) → leaf ≡ Builder lt → ⊥) → (leaf ≡ Owned → ⊥) → (leaf ≡ Pipeline → ⊥)
    → parameter_string root leaf p ≡ refused 7
unfolding parameter_string
refused-leaf root p (Reader lt) r b o l = absurd (r lt refl)
refused-leaf root p (Builder lt) r b o l = absurd (b lt refl)
refused-leaf root p Owned r b o l = absurd (o refl)
refused-leaf root p Client r b o l = refl
refused-leaf root p Server r b o l = refl
refused-leaf root p ServerDispatch r b o l = refl
refused-leaf root p Pipeline r b o l = absurd (l refl)
refused-leaf root p GetType r b o l = refl

-- ---- nodes: a claim `Q` of what the Rust gives

module _ (s : Str) (sheet : Sheet) (index : List ℕ) (id : ℕ) (f : Option Entry) (e : f ≡ lookup index id)
    (x : Indexed s sheet.nodes index) (Q : Out Str → Type 0) where
  pub module-none : f ≡ None → Q (refused 5) → Q (get_qualified_module sheet id)
  module-none h q = rw (node_missing s sheet.nodes index id f e x h) q

  pub module-at : (n : Entry) → f ≡ Some n → (name : Str)
      → ((index : List ℕ) (m : Node) → EntryIs s index n m → name ≡ m.the_mod) → Q (ok name) → Q (get_qualified_module sheet id)
  module-at n h name named q = node-there s sheet.nodes index id f e x n h (λ o. Q (o then λ m. ok m.the_mod))
      (λ m y w. rw (← named index m w) q)

  module _ (leaf : Leaf) (k : ℕ) where
    pub parameter-none : f ≡ None → Q (refused 5) → Q (type_string (parameter id k) sheet leaf)
    unfolding type_string
    parameter-none h q = rw (node_missing s sheet.nodes index id f e x h) q

    module _ (n : Entry) (h : f ≡ Some n) (g : Option ℕ)
        (there : (m : Node) → EntryIs s index n m → NameAt s g k m.params) where
      by_name : (o : Option Str) → ((m : Node) → EntryIs s index n m → nth k m.params ≡ o)
          → Q (or_refused 13 o then λ p. parameter_string sheet.root leaf p) → Q (type_string (parameter id k) sheet leaf)
      unfolding type_string
      by_name o is q = node-there s sheet.nodes index id f e x n h
          (λ o. Q (o then λ m. parameter_name m.params k then λ p. parameter_string sheet.root leaf p))
          (λ m y w. rw (parameter-named m.params k, is m w) q)

      pub parameter-out : g ≡ None → Q (refused 13) → Q (type_string (parameter id k) sheet leaf)
      parameter-out z q = by_name None (λ m w. rw z at (there m w)) q

      pub parameter-at : (place : ℕ) → g ≡ Some place
          → Q (parameter_string sheet.root leaf (text_at (rows (drop place s)))) → Q (type_string (parameter id k) sheet leaf)
      parameter-at place z q = by_name (Some (text_at (rows (drop place s)))) (λ m w. rw z at (there m w)) q

-- ---- arguments

abbrev args : Text → ℕ → Arguments
args t b = record { text = t; sep = b }

pub listed-none : (l : List ℕ) (p : Arguments) → Listed l p [] l p
unfolding listed sep_after put adv
listed-none l p = record { text = record { bytes = refl; state = refl }; sep = refl }

-- one argument, and the others after it
pub listed_cons : {l : List ℕ} {p : Arguments} {w l₁ : List ℕ} {t : Text} {ws : List Str} {l' : List ℕ} {p' : Arguments}
    → Wrote l p.text (unit p.sep ++ w) l₁ t → Listed l₁ (args t 44) ws l' p' → Listed l p (w ∷ ws) l' p'
unfolding listed sep_after
listed_cons {ws = ws} a h = record { text = a ⨾ h.text; sep = h.sep ∙ last ws }
  where
    last : (ws : List Str) → sep_after 44 ws ≡ 44
    last [] = refl
    last (w ∷ ws) = refl

-- arguments that are not refused, and a refusal
pub all_listed : {l : List ℕ} {p : Arguments} {ws : List Str} {l' : List ℕ} {q : Arguments} → Listed l p ws l' q
    → Lists (ok ws) l p l' (Ok q)
all_listed {l} {p} {ws} {l'} {q} h = record {
  refusal = refl;
  listed = λ v u e f. subst (λ (y : Arguments). Listed l p v l' y) (same f)
      (subst (λ (x : List Str). Listed l p x l' q) (ok-one e) h);
}
  where
    same : {u : Arguments} → ◌≡◌ {A = Result Arguments Refusal} (Ok q) (Ok u) → q ≡ u
    same e = cc

pub not_listed : {l : List ℕ} {p : Arguments} {k : ℕ} {l' : List ℕ} {e : Refusal} → number e ≡ k
    → Lists (refused k) l p l' (Err e)
not_listed n = record { refusal = ap Some n; listed = λ ws q e. absurd (not-ok e) }

pub listed_of : {l : List ℕ} {p : Arguments} {ws : List Str} {l' : List ℕ} {q : Arguments} → Lists (ok ws) l p l' (Ok q)
    → Listed l p ws l' q
listed_of h = h.listed _ _ refl refl

-- one more of the same
pub replicate-on : (w : Str) (n : ℕ) → 0 < n → replicate n w ≡ w ∷ replicate (n - 1) w
replicate-on w zero h = let z : ⊥ = omega arith in absurd z
replicate-on w (suc n) h = rw (sub-one (suc n))

-- as many as there are names
pub map-replicate : (w : Str) (ws : List Str) → map (λ p. w) ws ≡ replicate (length ws) w
map-replicate w [] = refl
map-replicate w (v ∷ ws) = ap (λ (x : List Str). w ∷ x) (map-replicate w ws)

-- arguments after arguments
listed_append : (b : ℕ) (x y : List Str) → listed b (x ++ y) ≡ listed b x ++ listed (sep_after b x) y
unfolding listed sep_after
listed_append b [] y = refl
listed_append b (w ∷ x) y = rw (listed_append 44 x y, lemma x) (sym (append_assoc (unit b ++ w) (listed 44 x) (listed 44 y)))
  where
    lemma : (x : List Str) → sep_after 44 x ≡ 44
    lemma [] = refl
    lemma (w ∷ x) = refl

sep_append : (b : ℕ) (x y : List Str) → sep_after b (x ++ y) ≡ sep_after (sep_after b x) y
unfolding sep_after
sep_append b [] y = refl
sep_append b (w ∷ x) [] = refl
sep_append b (w ∷ x) (v ∷ y) = refl

pub listed-both : {l : List ℕ} {p : Arguments} {x : List Str} {l₁ : List ℕ} {p₁ : Arguments} {y : List Str} {l₂ : List ℕ}
    {p₂ : Arguments} → Listed l p x l₁ p₁ → Listed l₁ p₁ y l₂ p₂ → Listed l p (x ++ y) l₂ p₂
listed-both {p = p} {x = x} {y = y} a b = record {
  text = rw (listed_append p.sep x y, ← a.sep) (a.text ⨾ b.text);
  sep = rw (sep_append p.sep x y, ← a.sep) b.sep;
}

-- arguments in angle brackets
join-listed : (w : Str) (ws : List Str) → join (ascii ",") (w ∷ ws) ≡ w ++ listed 44 ws
unfolding join listed
join-listed w [] = sym (append-nil w)
join-listed w (v ∷ ws) = rw (join-listed v ws) (lemma w (ascii ",") v (listed 44 ws))
  where
    lemma : (a b c d : Str) → a ++ b ++ (c ++ d) ≡ a ++ (b ++ c ++ d)
    lemma a b c d = simp append_assoc

angled-listed : (ws : List Str) → angled ws ≡ listed 60 ws ++ closer (sep_after 60 ws)
unfolding angled listed sep_after
angled-listed [] = refl
angled-listed (w ∷ ws) = rw (join-listed w ws) (lemma (ascii "<") w (listed 44 ws) (ascii ">"))
  where
    lemma : (a b c d : Str) → a ++ (b ++ c) ++ d ≡ a ++ b ++ c ++ d
    lemma a b c d = simp append_assoc

-- a brand's text: its module, the leaf, its arguments and their end
pub branded : {l : List ℕ} {t : Text} {the_mod l₁ : List ℕ} {t₁ : Text} {l₂ : List ℕ} {p : Arguments} {l₃ : List ℕ}
    {q : Arguments} {l₄ : List ℕ} {t₄ : Text} (leaf : Leaf) (ws : List Str)
    → Wrote l t the_mod l₁ t₁ → Opened l₁ t₁ leaf l₂ p → Listed l₂ p ws l₃ q → Wrote l₃ q.text (closer q.sep) l₄ t₄
    → Wrote l t (the_mod ++ ascii "::" ++ bare_name leaf ++ maybe_colons leaf ++ angled (leaf_arguments leaf ++ ws)) l₄ t₄
branded {l} {t} {the_mod} {p = p} {q = q} {l₄} {t₄} leaf ws a o b c =
    let own = leaf_arguments leaf in
    let e : q.sep ≡ sep_after 60 (own ++ ws) = b.sep ∙ rw (o.sep, sep_append 60 own ws) refl in
    rw (angled-listed (own ++ ws), listed_append 60 own ws, ← o.sep, ← e)
    (subst (λ (w : Str). Wrote l t w l₄ t₄) (same the_mod (ascii "::") (bare_name leaf) (maybe_colons leaf) (listed 60 own)
    (listed p.sep ws) (closer q.sep)) (a ⨾ o.text ⨾ b.text ⨾ c))
  where
    same : (m d n k x y z : Str) → m ++ (d ++ n ++ k ++ x) ++ y ++ z ≡ m ++ d ++ n ++ k ++ (x ++ y ++ z)
    same m d n k x y z = simp append_assoc
