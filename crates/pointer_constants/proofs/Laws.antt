-- Laws of words: one more row, the bytes of a word, and the lines of a declaration. Assumes nothing.
use mathlib.Core.Path.{◌≡◌, refl, sym, ap, ◌∙◌}
use mathlib.Core.Bool.{true}
use mathlib.Core.List.{List, [], ◌∷◌, ◌++◌, append_assoc}
use Prim.Native.Nat.{ℕ, zero, suc, ◌+◌, ◌-◌, ◌/◌, ◌%◌, ◌^◌, ◌<◌, ◌≤◌}
use native.Mathlib.Omega.{arith}
use denote.Enum.Declared.{tag_of}
use native.Mathlib.Numerals.{add-one}
use Rattle.row.specs.contracts.Line.{the_type}
use lib.ListN.{length, take, drop, get_or}
use Rattle.std.proofs.Math.ListN.{drop_of_length-le}
use lib.Seq.{drop-cons}
use Rattle.std.specs.Prelude.{Result, Ok, Err}
use Rattle.std.specs.Int.{w64, bytes_low_first, to_le_bytes}
use Rattle.std.proofs.Math.Nat.{div-div-eq-div-mul, pow-suc}
use Rattle.row.specs.declared.BadLine.{BadLine}
use Rattle.text.specs.Bytes.{Str, ascii, unit}
use Rattle.text.specs.Decimal.{decimal}
use Rattle.text.specs.Text.{WroteLines}
use Rattle.text.specs.declared.Text.{Text}
use Rattle.text.specs.Lines.{margin, to_lines, flat_map, stringify, ended}
use Rattle.text.proofs.Laws.{reworded}
use Rattle.text.proofs.LinesLaws.{ended_append, stringify-lines}
use Rattle.row.specs.Rows.{rest_of}
use Rattle.row.specs.Line as content
use Rattle.row.specs.Line.{misplaced, Content, line_said, line_at, as_word, fault_of}
use Rattle.row.specs.declared.Line.{Line as RowLine}
use Rattle.row.specs.declared.Line.TheVariants as line
use Rattle.tree.specs.Reader.{Rows, Reading, Reader, got, no, ◌then◌, On, Has}
use Rattle.tree.specs.Read.{read_words_up_to, read_words}
use Rattle.tree.proofs.OtherLines.{not-word, not_word-tag}
use Rattle.tree.proofs.WalkLaws.{by_told}
use Rattle.types.proofs.Laws.{on-map, on_one}
use Rattle.codegen.specs.WordArray.{bytes_from, word_bytes, words_lines, word_array_declaration}
use Rattle.pointer_constants.specs.Words.{words_at, word_code, words_text, declaration_text}

-- ---- rows

-- two choices by whether a line is a W row
two : {A B : Type 0} (R : A → B → Type 0) (l : Content) (y : ℕ → A) (z : A) (y' : ℕ → B) (z' : B) → ((w : ℕ) → R (y w) (y' w))
    → R z z'
    → R (as_word l y z) (as_word l y' z')
two R content.Root y z y' z' f g = g
two R (content.Node i p k x v c o) y z y' z' f g = g
two R content.Parameter y z y' z' f g = g
two R (content.Field o d e p) y z y' z' f g = g
two R (content.Group i d) y z y' z' f g = g
two R (content.Typ k a b c) y z y' z' f g = g
two R (content.Scope i b c) y z y' z' f g = g
two R content.Unbound y z y' z' f g = g
two R (content.Value k b) y z y' z' f g = g
two R (content.Word w) y z y' z' f g = f w
two R (content.Bad x k) y z y' z' f g = g

words_are : (n : ℕ) (rs : Rows) → On (read_words_up_to n rs) (λ ws. ws ≡ words_at n rs)
unfolding read_words_up_to words_at
words_are zero rs = refl
words_are (suc n) rs =
    two (λ (f : Reader (List ℕ)) (ws : List ℕ). On (f rs) (λ x. x ≡ ws)) (line_at rs) _ _ _ _
    (λ w. on-map (λ ws. w ∷ ws) (λ x. x ≡ w ∷ words_at n (rest_of rs)) (read_words_up_to n (rest_of rs))
    (on_one (λ ws. ws ≡ words_at n (rest_of rs)) (λ ws. w ∷ ws ≡ w ∷ words_at n (rest_of rs)) (read_words_up_to n (rest_of rs))
    (λ ws e. ap (λ (x : List ℕ). w ∷ x) e) (words_are n (rest_of rs))))
    (by_told (λ g. On g (λ x. x ≡ [])) (fault_of 87 (line_at rs)) (got []) rs (λ k. tt) refl)

-- a slot's words
words-whole : (rs : Rows) (ws : List ℕ) → Has (read_words true rs) (λ x. x ≡ ws) → ws ≡ words_at 255 rs
unfolding read_words words_at
words-whole rs ws =
    two (λ (f : Reader (List ℕ)) (xs : List ℕ). Has (f rs) (λ x. x ≡ ws) → ws ≡ xs) (line_at rs) _ _ _ _
    (λ w. go w (read_words_up_to 254 (rest_of rs)) (words_are 254 (rest_of rs)))
    (by_told (λ g. Has g (λ x. x ≡ ws) → ws ≡ []) (fault_of 87 (line_at rs)) (no misplaced) rs (λ k h. absurd h) (λ h. absurd h))
  where
    go : (w : ℕ) (g : Reading (List ℕ)) → On g (λ x. x ≡ words_at 254 (rest_of rs)) → Has (g then λ x. got (w ∷ x)) (λ x. x ≡ ws)
        → ws ≡ w ∷ words_at 254 (rest_of rs)
    go w (got x q) e h = sym h ∙ ap (λ (y : List ℕ). w ∷ y) e
    go w (no k q) e h = absurd h

-- no more rows need be looked at than there are words
words-short : (n : ℕ) (rs : Rows) → words_at (length (words_at n rs)) rs ≡ words_at n rs
unfolding words_at
words-short zero rs = refl
words-short (suc n) rs = go (line_at rs) refl (words-short n (rest_of rs))
  where
    go : (l : Content) → line_at rs ≡ l → words_at (length (words_at n (rest_of rs))) (rest_of rs) ≡ words_at n (rest_of rs)
        → words_at (length (as_word l (λ w. w ∷ words_at n (rest_of rs)) [])) rs
        ≡ as_word l (λ w. w ∷ words_at n (rest_of rs)) []
    go (content.Word w) e h = rw e (ap (λ (x : List ℕ). w ∷ x) h)
    go content.Root e h = refl
    go (content.Node i p k x v c o) e h = refl
    go content.Parameter e h = refl
    go (content.Field o d x p) e h = refl
    go (content.Group i d) e h = refl
    go (content.Typ k a b c) e h = refl
    go (content.Scope i b c) e h = refl
    go content.Unbound e h = refl
    go (content.Value k b) e h = refl
    go (content.Bad x k) e h = refl

words_of : (rs : Rows) (ws : List ℕ) (k : ℕ) → Has (read_words true rs) (λ x. x ≡ ws) → k ≡ length ws → words_at k rs ≡ ws
words_of rs ws k h e =
    let z = words-whole rs ws h in rw (e, z) (words-short 255 rs)

pub words-none : (most done : ℕ) (rs : Rows) → most ≤ done → words_at (most - done) rs ≡ []
unfolding words_at
words-none most done rs h = rw (let z : most - done ≡ 0 = omega arith in z) refl

-- what the code says of a row that is no W row: a line with another tag, or a bad one
abbrev pub NoWord : Result RowLine BadLine → Type 0
NoWord (Ok l) = tag_of the_type l ≡ 9 → ⊥
NoWord (Err b) = Unit {0}

-- what the code says of the first row, and the rows after it
module _ (rs rest : Rows) (l : Result RowLine BadLine) (here : line_said l ≡ line_at rs) (after : rest ≡ rest_of rs) where
  pub words_more : (most done w : ℕ) → done < most → l ≡ Ok (line.Word w)
      → words_at (most - done) rs ≡ w ∷ words_at (most - (done + 1)) rest
  unfolding line_said words_at
  words_more most done w h is =
      rw (let z : most - done ≡ suc (most - (done + 1)) = omega arith in z, ← here, is, ← after) refl

  pub words-stop : (most done : ℕ) → done < most → NoWord l → words_at (most - done) rs ≡ []
  unfolding line_said words_at
  words-stop most done h other =
      rw (let z : most - done ≡ suc (most - (done + 1)) = omega arith in z, ← here) (go l other)
    where
      go : (k : Result RowLine BadLine) → NoWord k
          → as_word (line_said k) (λ w. w ∷ words_at (most - (done + 1)) (rest_of rs)) [] ≡ []
      go (Ok k) f = not-word k _ _ (not_word-tag k (λ w e. f (ap (tag_of the_type) e)))
      go (Err b) f = refl

-- and of their text
pub text-more : (root : Str) (level : ℕ) (xs ws : List ℕ) (w : ℕ) → xs ≡ w ∷ ws
    → words_text root xs level ≡ word_code root w level ++ words_text root ws level
unfolding words_text
text-more root level xs ws w e = rw e refl

pub text-none : (root : Str) (level : ℕ) (xs : List ℕ) → xs ≡ [] → words_text root xs level ≡ []
unfolding words_text
text-none root level xs e = rw e refl

-- ---- bytes

-- the bytes of a word but the first, each in decimal after a comma and a space
unfoldable pub bytes_text : List ℕ → Str
bytes_text [] = []
bytes_text (b ∷ bs) = ascii ", " ++ (decimal b ++ bytes_text bs)

pub more-bytes : (bs : List ℕ) (i : ℕ) → i < length bs
    → bytes_text (drop i bs) ≡ ascii ", " ++ (decimal (get_or bs i 0) ++ bytes_text (drop (i + 1) bs))
unfolding bytes_text
more-bytes bs i h = rw (add-one, drop-cons bs i 0 h) refl

pub no-bytes : (bs : List ℕ) (i : ℕ) → length bs ≤ i → bytes_text (drop i bs) ≡ []
unfolding bytes_text
no-bytes bs i h = rw (drop_of_length-le bs h) refl

-- from byte i on they are those of the word without its first i bytes
bytes-from : (i n w : ℕ) → bytes_from n (w / 256 ^ suc i) ≡ bytes_text (bytes_low_first (suc i) n w)
unfolding bytes_from bytes_text
bytes-from i zero w = refl
bytes-from i (suc n) w =
    append_assoc (ascii ", ") (decimal (w / 256 ^ suc i % 256)) (bytes_from n (w / 256 ^ suc i / 256))
    ∙ ap (λ (x : Str). ascii ", " ++ (decimal (w / 256 ^ suc i % 256) ++ x))
    (ap (bytes_from n) (div-div-eq-div-mul w (256 ^ suc i) 256 ∙ ap (λ (p : ℕ). w / p) (sym (pow-suc 256 (suc i))))
    ∙ bytes-from (suc i) n w)

-- the first byte, then the others
pub word-text : (bs : List ℕ) (b w : ℕ) → bs ≡ to_le_bytes w64 w → b ≡ get_or bs 0 0
    → decimal b ++ bytes_text (take 7 (drop 1 bs)) ≡ word_bytes w
word-text bs b w e f = rw (f, e) (ap (λ (x : Str). decimal (w % 256) ++ x) (sym (bytes-from 0 7 w)))

-- ---- the declaration

words_lines_lem : (root : Str) (ws : List ℕ) (level : ℕ)
    → ended (flat_map (words_lines root ws) (level + 1)) ≡ words_text root ws level
unfolding to_lines flat_map ended margin words_lines words_text
words_lines_lem root [] level = refl
words_lines_lem root (w ∷ ws) level =
    let m = margin (level + 1) in
    ap (λ (x : Str). (m ++ (root ++ ascii "::word(" ++ word_bytes w ++ ascii "),")) ++ (unit 10 ++ x))
    (words_lines_lem root ws level)
    ∙ joined m root (ascii "::word(") (word_bytes w) (ascii "),") (unit 10) (words_text root ws level)
  where
    joined : (m root a b c n more : Str) → (m ++ (root ++ a ++ b ++ c)) ++ (n ++ more)
        ≡ m ++ root ++ a ++ b ++ (c ++ n) ++ more
    joined m root a b c n more = simp append_assoc

declaration : (root name : Str) (ws : List ℕ) (level : ℕ)
    → declaration_text root name (length ws) ws level ≡ stringify (word_array_declaration root name ws true) level
unfolding to_lines flat_map ended margin word_array_declaration
declaration root name ws level =
    sym (stringify-lines (word_array_declaration root name ws true) level (λ e. let z : ◌≡◌ {A = ℕ} 0 1 = cc in omega arith)
    ∙ ap (λ (x : Str). (margin level ++ head) ++ (unit 10 ++ x))
    (ended_append (flat_map (words_lines root ws) (level + 1)) ((margin level ++ ascii "];") ∷ [])
    ∙ ap (λ (x : Str). x ++ ((margin level ++ ascii "];") ++ unit 10)) (words_lines_lem root ws level))
    ∙ joined (margin level) (ascii "pub(crate) ") (ascii "static ") name (ascii ": [") root (ascii "::Word; ")
    (decimal (length ws)) (ascii "] = [") (unit 10) (words_text root ws level) (ascii "];"))
  where
    head : Str
    head = ascii "pub(crate) " ++ ascii "static " ++ name ++ ascii ": [" ++ root ++ ascii "::Word; " ++ decimal (length ws)
        ++ ascii "] = ["

    joined : (m a b name c root d k e n text z : Str)
        → (m ++ (a ++ b ++ name ++ c ++ root ++ d ++ k ++ e)) ++ (n ++ (text ++ ((m ++ z) ++ n)))
        ≡ m ++ (a ++ b) ++ name ++ c ++ root ++ d ++ k ++ (e ++ n) ++ text ++ m ++ (z ++ n)
    joined m a b name c root d k e n text z = simp append_assoc

-- of a slot's words it is `word_array_declaration`'s
pub declaration_of : {l : List ℕ} {t : Text} {l' : List ℕ} {t' : Text} (root name : Str) (rs : Rows) (n : ℕ)
    → WroteLines l t (declaration_text root name n (words_at n rs)) l' t' → (ws : List ℕ)
    → Has (read_words true rs) (λ x. x ≡ ws) → n ≡ length ws
    → WroteLines l t (stringify (word_array_declaration root name ws true)) l' t'
declaration_of root name rs n w ws h e = reworded (declaration root name ws) (rw (← e, ← words_of rs ws n h e) w)
