-- The text at a level of whatever is asked is its lines at level 0, each moved in: by what each of the Rust's functions gives, a
-- tree of lines, a getter's texts, or a type's text. Assumes nothing.
use mathlib.Core.Path.{◌≡◌, refl, sym, ap, ◌∙◌}
use mathlib.Core.Bool.{Bool}
use mathlib.Core.List.{List, ◌++◌, append_assoc, append-nil}
use Rattle.std.specs.Prelude.{Option, None, Some}
use Prim.Native.Nat.{ℕ}
use Rattle.text.specs.Bytes.{Str, unit}
use Rattle.text.specs.Lines.{FormattedText, Branch, margin, stringify, join}
use Rattle.text.specs.Levels.{Laid, laid_out, shown}
use Rattle.text.proofs.LevelLaws.{stringify-moves}
use Rattle.names.specs.Names.{camel_to_snake_case}
use Rattle.tree.specs.Tree.{kind, Slot, Sheet, Arm, slot, group}
use Rattle.codegen_types.specs.Out.{Out, ok, refused, ◌then◌}
use Rattle.codegen_types.specs.TypeString.{type_string}
use Rattle.codegen_types.specs.declared.Leaf.{Leaf}
use Rattle.codegen.specs.Getter.{Getter as Made, declared, getter_text, getter_request}
use Rattle.codegen.specs.Profiles.{MaskRule, present_mask, paired_mask}
use Rattle.codegen.specs.Setter.{generate_setter, setter_request}
use Rattle.codegen.specs.Haser.{generate_haser, haser_request}
use Rattle.codegen.specs.Zeroing.{zero_fields_of_group, zeroing_request}
use Rattle.field.specs.Slot.{SlotField}
use Rattle.requests.specs.Requests.{there, type_text, slot_field, slot_setter, group_of, accessor_text}
use Rattle.requests.specs.Levels.{declared_laid, getter_laid, tree_laid, Shape, lined, type_shape, setter_shape}
use Rattle.requests.specs.Levels.{type_line, shown_all, shown_at, LevelsHold}
use Rattle.requests.specs.declared.Accessor.TheVariants.{TypeText, Getter, Setter, PairedSetter, Haser, Zeroing}

-- the text at every level is that of the same lines
abbrev pub OfLines : (ℕ → Out Str) → Out (List (List Laid)) → Type 0
OfLines o laid = (level : ℕ) → o level ≡ (laid then λ ts. ok (shown_all level ts))

-- what is made of what a function of the Rust gives
module _ {A : Type 0} (made : A → ℕ → Str) (laid : A → List (List Laid))
    (same : (a : A) (level : ℕ) → made a level ≡ shown_all level (laid a)) where
  of_lines : (o : Out A) → OfLines (λ level. o then λ a. ok (made a level)) (o then λ a. ok (laid a))
  of_lines (ok a) level = ap ok (same a level)
  of_lines (refused k) level = refl

  of_shape : (o : Out A) (level : ℕ)
      → (o then λ a. ok (made a level)) ≡ ((o then λ a. ok (lined (laid a))) then λ x. ok (shown_at level x))
  of_shape (ok a) level = ap ok (same a level)
  of_shape (refused k) level = refl

-- ---- a tree of lines, and the texts of a getter

tree-shown : (ft : FormattedText) (level : ℕ) → stringify ft level ≡ shown_all level (tree_laid ft)
unfolding shown_all
tree-shown ft level = stringify-moves ft level ∙ sym (append-nil (shown level (laid_out ft 0)))

declared-shown : (d : Option FormattedText) (level : ℕ) → declared d level ≡ shown_all level (declared_laid d)
unfolding shown_all
declared-shown None level = refl
declared-shown (Some d) level = tree-shown d level

-- the text of what getter_text returns
abbrev getter_made : Made → ℕ → Str
getter_made g level = margin level ++ g.result_type ++ unit 10 ++ stringify g.code level ++ declared g.declaration level

getter-shown : (g : Made) (level : ℕ) → getter_made g level ≡ shown_all level (getter_laid g)
unfolding shown_all shown join
getter-shown g level =
    append_assoc (margin level ++ g.result_type ++ unit 10) (stringify g.code level) (declared g.declaration level)
    ∙ ap (λ (x : Str). margin level ++ g.result_type ++ unit 10 ++ x)
    (ap (λ (x : Str). x ++ declared g.declaration level) (stringify-moves g.code level)
    ∙ ap (λ (x : Str). shown level (laid_out g.code 0) ++ x) (declared-shown g.declaration level))

-- ---- the texts of a field

pub getter-levels : (sheet : Sheet) (name : Str) (s : Slot) (is_reader is_fn : Bool)
    → OfLines (getter_request sheet name s is_reader is_fn)
    (getter_text sheet name s is_reader is_fn then λ g. ok (getter_laid g))
unfolding getter_request
getter-levels sheet name s is_reader is_fn =
    of_lines getter_made getter_laid getter-shown (getter_text sheet name s is_reader is_fn)

pub setter-levels : (rule : MaskRule) (sheet : Sheet) (tag : ℕ) (name : Str) (d : ℕ) (s : Slot)
    → OfLines (setter_request rule sheet tag name d s)
    (generate_setter rule sheet tag (camel_to_snake_case name) d s then λ ft. ok (tree_laid ft))
unfolding setter_request
setter-levels rule sheet tag name d s =
    of_lines stringify tree_laid tree-shown (generate_setter rule sheet tag (camel_to_snake_case name) d s)

pub haser-levels : (tag : ℕ) (name : Str) (d : ℕ) (s : Slot) (is_reader : Bool)
    → OfLines (λ level. ok (haser_request tag name d s is_reader level))
    (ok (tree_laid (generate_haser tag (camel_to_snake_case name) d (kind s.ty) s.offset is_reader)))
unfolding haser_request
haser-levels tag name d s is_reader level =
    ap ok (tree-shown (generate_haser tag (camel_to_snake_case name) d (kind s.ty) s.offset is_reader) level)

pub zeroing-levels : (sheet : Sheet) (id : ℕ)
    → OfLines (zeroing_request sheet id) (zero_fields_of_group sheet 16 id then λ z. ok (tree_laid (Branch z.result)))
unfolding zeroing_request
zeroing-levels sheet id =
    of_lines (λ z. stringify (Branch z.result)) (λ z. tree_laid (Branch z.result)) (λ z. tree-shown (Branch z.result))
    (zero_fields_of_group sheet 16 id)

-- ---- whatever is asked

type-levels : (sheet : Sheet) (a : Arm) (leaf : Option Leaf) (level : ℕ)
    → type_text sheet a leaf level ≡ (type_shape sheet a leaf then λ x. ok (shown_at level x))
unfolding type_text
type-levels sheet (slot s) leaf level = go (there leaf then type_string s.ty sheet)
  where
    go : (o : Out Str)
        → (o then λ typ. ok (margin level ++ typ)) ≡ ((o then λ typ. ok (type_line typ)) then λ x. ok (shown_at level x))
    go (ok typ) = refl
    go (refused k) = refl
type-levels sheet (group id) leaf level = refl

-- behind a step that is the same at every level
behind : {A : Type 0} (o : Out A) (f : A → Out Str) (g : A → Out Shape) (level : ℕ)
    → ((a : A) → f a ≡ (g a then λ x. ok (shown_at level x))) → (o then f) ≡ ((o then g) then λ x. ok (shown_at level x))
behind (ok a) f g level e = e a
behind (refused k) f g level e = refl

-- a setter by either rule
setter-shaped : (rule : MaskRule) (sheet : Sheet) (tag level : ℕ) (f : SlotField)
    → slot_setter rule sheet tag level f ≡ (setter_shape rule sheet tag f then λ x. ok (shown_at level x))
unfolding setter_request
setter-shaped rule sheet tag level f =
    of_shape stringify tree_laid tree-shown
    (generate_setter rule sheet tag (camel_to_snake_case f.name) f.discriminant f.slot) level

-- EVERYTHING THAT IS ASKED, AT EVERY LEVEL
pub levels-hold : LevelsHold
unfolding accessor_text getter_request haser_request zeroing_request
levels-hold sheet at (TypeText leaf) level = type-levels sheet at.1.arm leaf level
levels-hold sheet at (Getter is_reader is_fn) level =
    behind (slot_field at.1) _ _ level
    (λ f. of_shape getter_made getter_laid getter-shown (getter_text sheet f.name f.slot is_reader is_fn) level)
levels-hold sheet at Setter level =
    behind (slot_field at.1) _ _ level (setter-shaped present_mask sheet at.0.tag_offset level)
levels-hold sheet at PairedSetter level =
    behind (slot_field at.1) _ _ level (setter-shaped paired_mask sheet at.0.tag_offset level)
levels-hold sheet at (Haser is_reader) level =
    behind (slot_field at.1) _ _ level
    (λ f. ap ok (tree-shown (generate_haser at.0.tag_offset (camel_to_snake_case f.name) f.discriminant (kind f.slot.ty)
    f.slot.offset is_reader) level))
levels-hold sheet at Zeroing level =
    behind (group_of at.1.arm) _ _ level
    (λ id. of_shape (λ z. stringify (Branch z.result)) (λ z. tree_laid (Branch z.result)) (λ z. tree-shown (Branch z.result))
    (zero_fields_of_group sheet 16 id) level)
