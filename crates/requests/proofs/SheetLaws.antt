-- Laws of what is admitted: a sheet's root is the text of its first row, and its answer is that of its nodes. Assumes nothing.
use mathlib.Core.Path.{◌≡◌, refl, sym, ap, subst}
use mathlib.Core.Bool.{Bool, true, false}
use mathlib.Core.List.{List, []}
use Prim.Native.Nat.{ℕ}
use lib.Dec.{eqb, ltb}
use lib.ListN.{length}
use Rattle.text.specs.Bytes.{Str}
use Rattle.text.specs.declared.Text.{Text}
use Rattle.row.specs.Rows.{rows, rest_of}
use Rattle.row.specs.Line as line
use Rattle.row.specs.Line.{Content, line_at, text_at}
use Rattle.tree.specs.Tree.{Node, Sheet}
use Rattle.tree.specs.Reader.{Rows, Reading, got, no, ◌then◌, On}
use Rattle.tree.specs.Read.{read_nodes, Admitted, sheet, refused, numbered, admitted}
use Rattle.tree.specs.Read as read
use Rattle.tree.proofs.OtherLines.{never}
use Rattle.std.specs.Prelude.{Option, Result, Ok, Err, ⊤}
use Rattle.std.specs.Borrow.{Bor}
use Rattle.nodes.specs.Index.{Indexed, sheet_of, IsSource}
use Rattle.nodes.specs.declared.Source.{Source}
use Rattle.sheet.specs.declared.Refused.{Refused}
use Rattle.sheet.specs.Admission.{answer_numbers, refusal_in, IndexOf}
use Rattle.requests.specs.Requests.{refuses, outcome_of}
use Rattle.requests.specs.Told.{Answered, StateAllowed, RequestAnswered}
use Rattle.requests.proofs.AnswerLaws.{own-refusal}
use Rattle.terms.specs.Refusals.{number}
use Rattle.requests.specs.declared.Request.{Request}

root-read : (rs : Rows) → On (read.read_sheet rs) (λ sh. sh.root ≡ text_at rs)
unfolding read.read_sheet
root-read rs = go (line_at rs) refl
  where
    nodes : (g : Reading (List Node)) → On (g then λ ns. got (sheet_of (text_at rs) ns)) (λ sh. sh.root ≡ text_at rs)
    nodes (got ns us) = refl
    nodes (no k us) = tt

    go : (l : Content) → line_at rs ≡ l → On (read.read_sheet rs) (λ sh. sh.root ≡ text_at rs)
    go line.Root e = rw e (nodes (read_nodes 64 [] [] (rest_of rs)))
    go (line.Node i p sc st g tc to) e = rw (e, e) tt
    go line.Parameter e = rw (e, e) tt
    go (line.Field a b c d) e = rw (e, e) tt
    go (line.Group a b) e = rw (e, e) tt
    go (line.Typ a b c d) e = rw (e, e) tt
    go (line.Scope a b c) e = rw (e, e) tt
    go line.Unbound e = rw (e, e) tt
    go (line.Value a b) e = rw (e, e) tt
    go (line.Word a) e = rw (e, e) tt
    go (line.Bad x k) e = by_fault (eqb x (line.byte "R")) refl
      where
        by_fault : (b : Bool) → eqb x (line.byte "R") ≡ b → On (read.read_sheet rs) (λ sh. sh.root ≡ text_at rs)
        by_fault true f = rw (e, e, f) tt
        by_fault false f = rw (e, e, f) tt

-- the root of a sheet, if it is admitted
abbrev HasRoot : Str → Admitted → Type 0
HasRoot root (sheet sh) = sh.root ≡ root
HasRoot root (refused k line column) = Unit {0}

admitted-root : (s : Str) → HasRoot (text_at (rows s)) (admitted s)
unfolding admitted
admitted-root s = by_length (ltb 65536 (length s))
  where
    by-reading : (g : Reading Sheet) → On g (λ sh. sh.root ≡ text_at (rows s)) → HasRoot (text_at (rows s)) (numbered s g)
    by-reading (got sh us) e = e
    by-reading (no k us) e = tt

    by_length : (b : Bool)
        → HasRoot (text_at (rows s)) (elim b [ true ↦ refused 1 0 0 | false ↦ numbered s (read.read_sheet (rows s)) ])
    by_length true = tt
    by_length false = by-reading (read.read_sheet (rows s)) (root-read (rows s))

-- what holds of every sheet with its index holds of what is admitted
pub of_sheet : (s : Str) (x : List ℕ) (P : Admitted → Type 0) (u : ⊤) → answer_numbers (Ok u) ≡ refusal_in (admitted s)
    → IndexOf s (admitted s) x
    → ((nodes : List Node) → Indexed s nodes x → P (sheet (sheet_of (text_at (rows s)) nodes))) → P (admitted s)
of_sheet s x P u e d h = go (admitted s) (admitted-root s) e d
  where
    go : (a : Admitted) → HasRoot (text_at (rows s)) a → answer_numbers (Ok u) ≡ refusal_in a → IndexOf s a x → P a
    go (sheet sh) root e d =
        let z : sheet_of (text_at (rows s)) sh.nodes ≡ sh = ap (λ (w : Str). sheet_of w sh.nodes) (sym root) in
        rw z at (h sh.nodes d)
    go (refused k line column) root e d = never cc

-- a source of these bytes and this index, wherever they stand in memory
abbrev held : List ℕ → Bor (List ℕ)
held l = record { ref_ptr = (0, 0); now = l }

abbrev pub source_of : List ℕ → List ℕ → Source
source_of s index = record { root = held (text_at (rows s)); bytes = held s; index = held index }

pub source-is : (s index : List ℕ) → IsSource s index (source_of s index)
source-is s index = record { root-is = refl; bytes-are = refl; index-is = refl }

-- a sheet that is refused
pub sheet-refused : (s : Str) (id : ℕ) (request : Option Request) (l : Str) (t : Text) → StateAllowed l t → (e : Refused)
    → answer_numbers (Err e) ≡ refusal_in (admitted s) → Answered l t (outcome_of (admitted s) id request t.level) l (Err e)
sheet-refused s id request l t free e h = go (admitted s) h
  where
    go : (a : Admitted) → answer_numbers (Err e) ≡ refusal_in a → Answered l t (outcome_of a id request t.level) l (Err e)
    go (sheet sh) h = never cc
    go (refused k row column) h =
        let z : ◌≡◌ {A = ℕ × ℕ × ℕ} (number e.refusal, e.line, e.column) (k, row, column) = cc in
        subst (λ (p : ℕ × ℕ × ℕ). Answered l t (refuses p.0 p.1 p.2) l (Err e)) z (own-refusal l t free e)

module _ (s : Str) (x : List ℕ) (id : ℕ) (request : Option Request) (l : Str) (t : Text) where
  pub sheet-answered :
      (l' : Str) (a : Result Text Refused) (u : ⊤) → answer_numbers (Ok u) ≡ refusal_in (admitted s)
      → IndexOf s (admitted s) x → (y : Source) → IsSource s x y → RequestAnswered y id request l t l' a
      → Answered l t (outcome_of (admitted s) id request t.level) l' a
  sheet-answered l' a u e index y is h =
      of_sheet s x (λ b. Answered l t (outcome_of b id request t.level) l' a) u e index
      (λ nodes d. rw is.root-is at (h nodes (rw (is.bytes-are, is.index-is) d)))
