-- Functions around a type's text: the functions one after the other are what `generate_setter` makes of what its match gives, by
-- one equation of texts for each shape, at any level; and a refusal on the way is the match's. Assumes nothing.
use mathlib.Core.Path.{◌≡◌, refl, subst, ◌∙◌}
use mathlib.Core.Bool.{Bool, true, false}
use mathlib.Core.List.{List, [], ◌++◌, append_assoc}
use Rattle.std.specs.Prelude.{None, Some, Result, Ok}
use Prim.Native.Nat.{ℕ, ◌+◌}
use Rattle.text.specs.Bytes.{Str, ascii}
use Rattle.text.specs.Lines.{margin, broken, stringify}
use Rattle.text.specs.Text.{WroteLines}
use Rattle.text.specs.declared.Text.{Text}
use Rattle.text.proofs.Laws.{◌⨾◌, ◌⋄◌, flat, level, reworded}
use Rattle.tree.proofs.OtherLines.{never}
use Rattle.codegen_types.specs.Out.{Out, ok, refused, ◌then◌}
use Rattle.codegen_types.specs.Written.{Writes}
use Rattle.codegen_types.proofs.WrittenLaws.{whole, text-of}
use Rattle.terms.specs.declared.refusals.Refusal.{Refusal}
use Rattle.codegen.proofs.AroundLaws.{front}
use Rattle.codegen.specs.Setter.{Parts, setter_functions, setter_only, setter_and_initter, line_alone, set_pointer, setter_input}
use Rattle.setter_code.specs.Parts.{tag_line, set_open, set_close, size_param, init_open, initn_open}
use Rattle.setter_code.proofs.Laws.{only-text, both-text, parameter-text}
use Rattle.setter.specs.Typed.{set_end, init_end}

-- what follows the type of a setter of one line
abbrev pub only_end : ℕ → ℕ → Str → ℕ → Str
only_end tag d line level =
    ascii ")  {\n" ++ tag_line tag d level ++ margin (level + 1) ++ line ++ broken (ascii "\n}\n") level

module _ (root : Str) (tag : ℕ) (name : Str) (d : ℕ) where
  -- the text of the parts that the match gives
  abbrev pub made : Out Parts → ℕ → Out Str
  made o level = o then (λ p. ok (setter_functions root tag name d p)) then λ ft. ok (stringify ft level)

  -- ---- a setter of one line

  only-lines : (line typ : Str) (level : ℕ) → set_open name level ++ typ ++ only_end tag d line level
      ≡ stringify (setter_functions root tag name d (setter_only (ascii "value") (line_alone line) typ)) level
  only-lines line typ level =
      joined (set_open name level) typ (ascii ")  {\n") (tag_line tag d level) (margin (level + 1)) line
      (broken (ascii "\n}\n") level)
      ∙ only-text level root tag name d line typ
    where
      joined : (p r q u sp v z : Str) → p ++ r ++ (q ++ u ++ sp ++ v ++ z) ≡ p ++ r ++ q ++ u ++ sp ++ v ++ z
      joined p r q u sp v z = simp append_assoc

  pub only-writes : {A : Type 0} {l l₁ l₂ l₃ : List ℕ} {t t₁ u t₃ : Text} (m : Out A) (x : A) (line : A → Str) (o : Out Str)
      → m ≡ ok x → WroteLines l t (set_open name) l₁ t₁ → Writes o l₁ t₁ l₂ (Ok u)
      → WroteLines l₂ u (only_end tag d (line x)) l₃ t₃
      → Writes (made (o then λ typ. m then λ y. ok (setter_only (ascii "value") (line_alone (line y)) typ)) t.level)
      l t l₃ (Ok t₃)
  only-writes m x line o e a h b =
      let p = text-of o h in
      rw (p.is, e) (whole (reworded (only-lines (line x) p.text) (a ⋄ flat p.wrote ⋄ b)).lines)

  -- ---- a setter and an initializer

  abbrev pub both_parts : ℕ → Bool → Str → Str → Str → Parts
  both_parts offset sized line reader_type builder_type =
      setter_and_initter (line_alone (set_pointer root offset)) reader_type true (size_param sized) (line_alone line)
      builder_type None

  -- what follows the type of what is set
  abbrev pub behind_set : ℕ → Bool → Str → Str → ℕ → Str
  behind_set offset sized line b level =
      set_end root tag d offset level ++ init_open name sized level ++ b ++ init_end tag d line level

  both-lines : (offset : ℕ) (sized : Bool) (line a b : Str) (level : ℕ)
      → set_open name level ++ a ++ behind_set offset sized line b level
      ≡ stringify (setter_functions root tag name d (both_parts offset sized line a b)) level
  both-lines offset sized line a b level =
      joined (set_open name level) a (set_close root true) (tag_line tag d level) (margin (level + 1)) (set_pointer root offset)
      (broken (ascii "\n}\n") level)
      (init_open name sized level) b (ascii " {\n") line
      ∙ both-text level root tag name d (set_pointer root offset) a true sized line b
    where
      joined : (p r q u sp v z i b w n : Str)
          → p ++ r ++ (q ++ u ++ sp ++ v ++ z ++ i ++ b ++ (w ++ u ++ sp ++ n ++ z))
          ≡ (p ++ r ++ q ++ u ++ sp ++ v ++ z) ++ (i ++ b ++ w ++ u ++ sp ++ n ++ z)
      joined p r q u sp v z i b w n = simp append_assoc

  pub both-writes : {l l₁ l₂ l₃ : List ℕ} {t t₁ v : Text} {q : Result Text Refusal}
      (offset : ℕ) (sized : Bool) (line : Str) (o o' : Out Str)
      → WroteLines l t (set_open name) l₁ t₁ → Writes o l₁ t₁ l₂ (Ok v)
      → Writes (o' then λ b. ok (behind_set offset sized line b v.level)) l₂ v l₃ q
      → Writes (made (o then λ a. o' then λ b. ok (both_parts offset sized line a b)) t.level) l t l₃ q
  both-writes {l} {l₁} {l₂} {l₃} {t} {t₁} {v} {q} offset sized line o o' a x y =
      let p = text-of o x in
      let same = level p.wrote ∙ level a.lines in
      let at_level = subst (λ (n : ℕ). Writes (o' then λ b. ok (behind_set offset sized line b n)) l₂ v l₃ q) same y in
      rw p.is (go p.text o' (front (λ b. behind_set offset sized line b t.level) o' (a.lines ⨾ p.wrote) at_level))
    where
      go : (w : Str) (o : Out Str)
          → Writes (o then λ b. ok (set_open name t.level ++ w ++ behind_set offset sized line b t.level)) l t l₃ q
          → Writes (made (o then λ b. ok (both_parts offset sized line w b)) t.level) l t l₃ q
      go w (ok b) z = rw (both-lines offset sized line w b t.level) at z
      go w (refused k) z = z

  -- ---- a parameter's functions

  abbrev pub three_parts : ℕ → Str → Str → Str → Str → Parts
  three_parts offset initn initter builder_type owned =
      setter_and_initter (line_alone (set_pointer root offset)) (setter_input root owned) true [] (line_alone initter)
      builder_type
      (Some (builder_type, initn))

  three-lines : (offset : ℕ) (initn initter b w : Str) (level : ℕ)
      → initn_open name level ++ b ++ init_end tag d initn level ++ set_open name level ++ setter_input root w
      ++ set_end root tag d offset level ++ init_open name false level ++ b ++ init_end tag d initter level
      ≡ stringify (setter_functions root tag name d (three_parts offset initn initter b w)) level
  three-lines offset initn initter b w level =
      joined (initn_open name level) b (ascii " {\n") (tag_line tag d level) (margin (level + 1)) initn
      (broken (ascii "\n}\n") level) (set_open name level) (setter_input root w) (set_close root true) (set_pointer root offset)
      (init_open name false level) initter
      ∙ parameter-text level root tag name d (set_pointer root offset) (setter_input root w) initter b initn
    where
      joined : (p b w u sp n z q r c v i m : Str)
          → p ++ b ++ (w ++ u ++ sp ++ n ++ z) ++ q ++ r ++ (c ++ u ++ sp ++ v ++ z) ++ i ++ b ++ (w ++ u ++ sp ++ m ++ z)
          ≡ (p ++ b ++ w ++ u ++ sp ++ n ++ z) ++ ((q ++ r ++ c ++ u ++ sp ++ v ++ z) ++ (i ++ b ++ w ++ u ++ sp ++ m ++ z))
      joined p b w u sp n z q r c v i m = simp append_assoc

  pub three_writes : {l l₁ l₂ l₃ l₄ l₅ l₆ l₇ l₈ l₉ : List ℕ} {t t₁ t₃ t₄ t₆ t₇ t₉ u v w : Text}
      (offset : ℕ) (initn initter : Str) (o o' : Out Str)
      → WroteLines l t (initn_open name) l₁ t₁ → Writes o l₁ t₁ l₂ (Ok u) → WroteLines l₂ u (init_end tag d initn) l₃ t₃
      → WroteLines l₃ t₃ (set_open name) l₄ t₄ → Writes (o' then λ owned. ok (setter_input root owned)) l₄ t₄ l₅ (Ok v)
      → WroteLines l₅ v (set_end root tag d offset) l₆ t₆
      → WroteLines l₆ t₆ (init_open name false) l₇ t₇ → Writes o l₇ t₇ l₈ (Ok w) → WroteLines l₈ w (init_end tag d initter) l₉ t₉
      → Writes (made (o then λ b. o' then λ owned. ok (three_parts offset initn initter b owned)) t.level) l t l₉ (Ok t₉)
  three_writes offset initn initter (ok b) (ok owned) a x p c y q f z g =
      whole (reworded (three-lines offset initn initter b owned)
      (a ⋄ flat (x.text b _ refl refl) ⋄ p ⋄ c ⋄ flat (y.text (setter_input root owned) _ refl refl) ⋄ q ⋄ f
      ⋄ flat (z.text b _ refl refl) ⋄ g)).lines
  three_writes offset initn initter (ok b) (refused k) a x p c y q f z g = let e = y.refusal in never cc
  three_writes offset initn initter (refused k) o' a x p c y q f z g = let e = x.refusal in never cc
