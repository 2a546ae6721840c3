-- Fields printed are read as those fields, and fields that are read are those fields printed: a slot's type, value and words, a
-- group, and the fields of a node one after the other with the group ids before them. Words end where no W line follows, and
-- fields where an N line follows or the sheet ends. Assumes nothing.
use mathlib.Core.Path.{◌≡◌, refl, sym, ap, ◌∙◌}
use mathlib.Core.Bool.{Bool, true, false}
use mathlib.Core.List.{List, [], ◌∷◌, ◌++◌}
use Prim.Native.Nat.{ℕ, zero, suc, ◌≤◌}
use native.Mathlib.Omega.{arith}
use borrow.Author.Tests.{ltb-true, lt-ltb, leb-true, le-leb, eqb-true}
use lib.Dec.{ltb, leb}
use lib.ListN.{length}
use Rattle.text.specs.Bytes.{Str, both}
use Rattle.column.specs.Texts.{is_field_name}
use Rattle.row.specs.Rows.{rest_of}
use Rattle.row.specs.Line.{fault, misplaced, Content, line_at, text_at, as_word, most_bits}
use Rattle.row.specs.Print.{print_field, print_value, print_word, Fits}
use Rattle.tree.specs.Tree.{Value, Slot, Arm, slot, group, Field}
use Rattle.tree.specs.Reader.{Rows, got, no, Reader, map_r, or_fault, on_word, on_group}
use Rattle.tree.specs.Read.{value_of, read_words_up_to, read_words, has_words, read_slot, field, is_field, read_field}
use Rattle.tree.specs.Read.{overlap, group_id, group_ids, fields_up_to, read_fields}
use Rattle.tree.specs.Print.{type_rows, word_rows, arm_rows, field_rows}
use Rattle.tree.specs.WellFormed.{fits, is_flag, every, type_fits, value_fits, words_fit, slot_fits, arm_fits, field_fits}
use Rattle.tree.proofs.FieldLaws.{fields-here}
use Rattle.printed.proofs.Reading.{line-here, text-here, Reads, reads_none, reads-line, reads_both, reads_then, reads-map}
use Rattle.printed.proofs.Reading.{Tells, told, nothing, tells_then, tells_map, tells_cond}
use Rattle.printed.proofs.Lines.{tells-field, tells-group, tells-value, tells-word}
use Rattle.text.proofs.BytesLaws.{both_true}
use Rattle.printed.proofs.Tests.{holds, ◌and◌, fits-most, most-fits, not-true, true-not, id-most, most-id}
use Rattle.printed.proofs.Types.{Room, room-rest, room-type, read-type, tell_type}
use Rattle.printed.proofs.Fresh.{fresh, fresh_append, fresh-arm}
use Rattle.row.specs.Line as line

-- ---- what is printed is read

-- the line after a field: another field, a node, or none
pub data AfterField : Content → Type 0 where
  a_field : {o d e p : ℕ} → AfterField (line.Field o d e p)
  a_group : {i d : ℕ} → AfterField (line.Group i d)
  a_node : {i p s x g c o : ℕ} → AfterField (line.Node i p s x g c o)
  the_end : AfterField line.empty_row

-- a V line
read-value :
    (v : Value) (rs : Rows) → value_fits v ≡ true
    → Reads (print_value v.kind v.bits ∷ rs) (value_of (print_value v.kind v.bits ∷ rs)) v rs
unfolding value_of rest_of
read-value v rs e =
    let (kind, bits) = both_true (ltb v.kind 19) (leb v.bits (most_bits v.kind)) e in
    let f : Fits (line.Value v.kind v.bits) [] = (omega (arith, ltb-true v.kind 19 kind), leb-true _ _ bits, refl) in
    reads-line (line.Value v.kind v.bits) [] f (rw (line-here (line.Value v.kind v.bits) [] rs f)) reads_none

-- words end where no W line stands
words-end : {A : Type 0} (f : ℕ → Reader A) (other : Reader A) (rs : Rows)
    → AfterField (line_at rs) → on_word f other rs ≡ other rs
words-end {A} f other rs h = go (line_at rs) refl h
  where
    go : (l : Content) → line_at rs ≡ l → AfterField l
        → as_word {A = Reader A} l (λ w rs. f w (rest_of rs)) (or_fault 87 other) rs ≡ other rs
    go l e a_field = rw e
    go l e _ = rw e

-- W lines up to a bound, and 1 to 255 where they belong
read-words_up_to :
    (n : ℕ) (ws : List ℕ) (rs : Rows) → length ws ≤ n → every (fits 64) ws ≡ true → AfterField (line_at rs)
    → Reads (word_rows ws rs) (read_words_up_to n (word_rows ws rs)) ws rs
unfolding read_words_up_to word_rows every rest_of
read-words_up_to zero [] rs l e h = reads_none
read-words_up_to zero (w ∷ ws) rs l e h = absurd (omega arith)
read-words_up_to (suc n) [] rs l e h = rw (words-end (λ w. map_r (w ∷◌) (read_words_up_to n)) (got []) rs h) reads_none
read-words_up_to (suc n) (w ∷ ws) rs l e h =
    let (here, more) = both_true _ _ e in
    let f : Fits (line.Word w) [] = (fits-most 64 w here, refl) in
    reads-line (line.Word w) [] f (rw (line-here (line.Word w) [] (word_rows ws rs) f))
    (reads-map (w ∷◌) (read-words_up_to n ws rs (omega arith) more h))

read-words :
    (b : Bool) (ws : List ℕ) (rs : Rows) → words_fit b ws ≡ true → AfterField (line_at rs)
    → Reads (word_rows ws rs) (read_words b (word_rows ws rs)) ws rs
unfolding read_words word_rows every rest_of
read-words true [] rs e h = cc
read-words true (w ∷ ws) rs e h =
    let n = suc (length ws) in
    let (count, words) = both_true (both (ltb 0 n) (ltb n 256)) (every (fits 64) (w ∷ ws)) e in
    let (some, few) = both_true (ltb 0 n) (ltb n 256) count in
    let (here, more) = both_true (fits 64 w) (every (fits 64) ws) words in
    let l = ltb-true n 256 few in
    let f : Fits (line.Word w) [] = (fits-most 64 w here, refl) in
    reads-line (line.Word w) [] f (rw (line-here (line.Word w) [] (word_rows ws rs) f))
    (reads-map (w ∷◌) (read-words_up_to 254 ws rs (omega arith) more h))
read-words false [] rs e h = reads_none
read-words false (w ∷ ws) rs e h = let z = eqb-true (suc (length ws)) 0 e in absurd (omega arith)

-- the tests of a slot, and of a field
abbrev pub slot_tests : Slot → List Bool
slot_tests s =
    fits 32 s.offset ∷ is_flag s.explicit ∷ is_flag s.option ∷ type_fits s.ty 16 ∷ value_fits s.default
    ∷ words_fit (has_words s.explicit s.default.kind) s.words ∷ []

abbrev pub field_tests : Field → List Bool
field_tests f = is_field_name f.name ∷ fits 16 f.discriminant ∷ arm_fits f.arm ∷ []

-- what belongs to an F line
abbrev slot_rows : Slot → Rows → Rows
slot_rows s rs = type_rows s.ty (print_value s.default.kind s.default.bits ∷ word_rows s.words rs)

read-slot :
    (s : Slot) (rs : Rows) → slot_fits s ≡ true → AfterField (line_at rs) → Room (slot_rows s rs)
    → Reads (slot_rows s rs) (read_slot s.offset s.explicit s.option (slot_rows s rs)) s rs
unfolding read_slot
read-slot s rs e h room =
    let tests = holds (slot_tests s) e in
    reads_then _ (read-type s.ty 16 _ room (tests 3))
    (reads_then _ (read-value s.default (word_rows s.words rs) (tests 4))
    (reads-map _ (read-words (has_words s.explicit s.default.kind) s.words rs (tests 5) h)))

-- the line of a field
abbrev arm_line : ℕ → Arm → Content
arm_line d (slot s) = line.Field s.offset d s.explicit s.option
arm_line d (group i) = line.Group i d

arm-fits :
    (name : Str) (d : ℕ) (arm : Arm) → is_field_name name ≡ true → fits 16 d ≡ true → arm_fits arm ≡ true
    → Fits (arm_line d arm) name
arm-fits name d (slot s) n f e =
    let tests = holds (slot_tests s) e in
    (fits-most 32 _ (tests 0), fits-most 16 d f, fits-most 1 _ (tests 1), fits-most 1 _ (tests 2), n)
arm-fits name d (group i) n f e = (id-most i e, fits-most 16 d f, n)

-- the rows that follow words, a field, and fields
room-words : (ws : List ℕ) (rs : Rows) → Room (word_rows ws rs) → Room rs
unfolding word_rows
room-words [] rs room = room
room-words (w ∷ ws) rs room = room-words ws rs (room-rest room)

room-arm : (name : Str) (d : ℕ) (arm : Arm) (rs : Rows) → Room (arm_rows name d arm rs) → Room rs
room-arm name d (slot s) rs room = room-words s.words rs (room-rest (room-type s.ty _ (room-rest room)))
room-arm name d (group i) rs room = room-rest room

pub room_fields : (fs : List Field) (rs : Rows) → Room (field_rows fs rs) → Room rs
unfolding field_rows
room_fields [] rs room = room
room_fields (f ∷ fs) rs room =
    room_fields fs rs (room-arm f.name f.discriminant f.arm (field_rows fs rs) room)

-- a field printed, read
module _ (name : Str) (d : ℕ) where
  read-arm :
      (arm : Arm) (rs : Rows) → is_field_name name ≡ true → fits 16 d ≡ true → arm_fits arm ≡ true → AfterField (line_at rs)
      → Room (arm_rows name d arm rs) → Reads (arm_rows name d arm rs) (read_field (arm_rows name d arm rs)) (field name d arm) rs
  unfolding read_field rest_of
  read-arm (slot s) rs n f e h room =
      let l = arm_line d (slot s) in
      let vs = slot_rows s rs in
      let fit = arm-fits name d (slot s) n f e in
      reads-line l name fit (rw (line-here l name vs fit, text-here l name vs fit))
      (reads-map (λ sl. field name d (slot sl)) (read-slot s rs e h (room-rest room)))
  read-arm (group i) rs n f e h room =
      let l = arm_line d (group i) in
      let fit = arm-fits name d (group i) n f e in
      let h = line-here l name rs fit in
      reads-line l name fit (rw (h, h, h, text-here l name rs fit)) reads_none

  -- its first line is an F or a G
  arm-field :
      (arm : Arm) (rs : Rows) → is_field_name name ≡ true → fits 16 d ≡ true → arm_fits arm ≡ true
      → (is_field (line_at (arm_rows name d arm rs)) ≡ true) × AfterField (line_at (arm_rows name d arm rs))
  arm-field (slot s) rs n f e =
      let h = line-here (arm_line d (slot s)) name (slot_rows s rs) (arm-fits name d (slot s) n f e) in
      (rw h, rw h a_field)
  arm-field (group i) rs n f e =
      let h = line-here (arm_line d (group i)) name rs (arm-fits name d (group i) n f e) in (rw h, rw h a_group)

-- the line after a node's fields: another node, or none
pub data AfterFields : Content → Type 0 where
  a_node : {i p s x g c o : ℕ} → AfterFields (line.Node i p s x g c o)
  the_end : AfterFields line.empty_row

-- one turn of the fields
fields-turn :
    (seen : List ℕ) (rs mid rest : Rows) (f : Field) (fs : List Field) → is_field (line_at rs) ≡ true → read_field rs ≡ got f mid
    → overlap (group_id f.arm) seen ≡ false → read_fields (seen ++ group_id f.arm) mid ≡ got fs rest
    → read_fields seen rs ≡ got (f ∷ fs) rest
fields-turn seen rs mid rest f fs a b c d = fields-here seen rs ∙ rw (a, b, c, d)

-- fields end where another line stands
fields-end : (seen : List ℕ) (rs : Rows) → AfterFields (line_at rs) → read_fields seen rs ≡ got [] rs
fields-end seen rs h = fields-here seen rs ∙ rw (go (line_at rs) h)
  where
    go : (l : Content) → AfterFields l → is_field l ≡ false
    go l a_node = refl
    go l the_end = refl

-- what follows the fields may follow a field
after-field : (l : Content) → AfterFields l → AfterField l
after-field l a_node = a_node
after-field l the_end = the_end

-- fields may follow a field too
pub fields_follow :
    (fs : List Field) (rs : Rows) → every field_fits fs ≡ true → AfterFields (line_at rs)
    → AfterField (line_at (field_rows fs rs))
unfolding every field_rows
fields_follow [] rs e h = after-field (line_at rs) h
fields_follow (f ∷ fs) rs e h =
    let (here, more) = both_true _ _ e in
    let tests = holds (field_tests f) here in
    (arm-field f.name f.discriminant f.arm (field_rows fs rs) (tests 0) (tests 1) (tests 2)).1

-- fields printed are read
pub read-fields :
    (fs : List Field) (seen : List ℕ) (rs : Rows) → every field_fits fs ≡ true → fresh seen (group_ids fs) ≡ true
    → AfterFields (line_at rs) → Room (field_rows fs rs) → Reads (field_rows fs rs) (read_fields seen (field_rows fs rs)) fs rs
unfolding every field_rows group_ids
read-fields [] seen rs e u h room = rw (fields-end seen rs h) reads_none
read-fields (f ∷ fs) seen rs e u h room =
    let (here, more) = both_true (field_fits f) (every field_fits fs) e in
    let tests = holds (field_tests f) here in
    let ids = group_id f.arm in
    let us = field_rows fs rs in
    let (new, later) = both_true _ _ (sym (fresh_append seen ids (group_ids fs)) ∙ u) in
    let follow = fields_follow fs rs more h in
    let less = room-arm f.name f.discriminant f.arm us room in
    let r = read-arm f.name f.discriminant f.arm us (tests 0) (tests 1) (tests 2) follow room in
    let q = read-fields fs (seen ++ ids) rs more later h less in
    let is = (arm-field f.name f.discriminant f.arm us (tests 0) (tests 1) (tests 2)).0 in
    let one = not-true (overlap ids seen) (sym (fresh-arm seen f.arm) ∙ new) in
    reads_both (fields-turn seen _ us rs f fs is r.gives one q.gives) r q

-- ---- what is read is printed

-- a V line
tell_value :
    (rs : Rows)
    → Tells (λ v rest. (rs ≡ print_value v.kind v.bits ∷ rest) × (value_fits v ≡ true)) (value_of rs)
unfolding value_of
tell_value rs =
    tells-value rs (no misplaced) nothing (λ k b. got (record { kind = k; bits = b })) (λ k b w.
    told (w.row, lt-ltb k 19 (omega (arith, w.fits.0)) and le-leb b (most_bits k) w.fits.1))

-- W lines up to a bound, and 1 to 255 where they belong
tell_words_up_to :
    (n : ℕ) (rs : Rows)
    → Tells (λ ws rest. (rs ≡ word_rows ws rest) × (length ws ≤ n) × (every (fits 64) ws ≡ true)) (read_words_up_to n rs)
unfolding read_words_up_to word_rows every
tell_words_up_to zero rs = told {a = []} (refl, omega arith, refl)
tell_words_up_to (suc n) rs =
    let less = tell_words_up_to n in
    tells-word rs (got []) (told {a = []} (refl, omega arith, refl)) (λ w. map_r (w ∷◌) (read_words_up_to n)) (λ w s.
    tells_map (w ∷◌) (less (rest_of rs)) (λ ws rest p.
    (s.row ∙ ap (λ (rs : Rows). print_word w ∷ rs) p.0, omega (arith, p.1), most-fits 64 w s.fits.0 and p.2)))

tell_words : (b : Bool) (rs : Rows) → Tells (λ ws rest. (rs ≡ word_rows ws rest) × (words_fit b ws ≡ true)) (read_words b rs)
unfolding read_words word_rows every
tell_words true rs =
    tells-word rs (no misplaced) nothing (λ w. map_r (w ∷◌) (read_words_up_to 254)) (λ w s.
    tells_map (w ∷◌) (tell_words_up_to 254 (rest_of rs)) (λ ws rest p.
    let n = suc (length ws) in
    let few = lt-ltb n 256 (omega (arith, p.1)) in (
      s.row ∙ ap (λ (rs : Rows). print_word w ∷ rs) p.0,
      (lt-ltb 0 n (omega arith) and few) and (most-fits 64 w s.fits.0 and p.2),
    )))
tell_words false rs = told (refl, refl)

-- what belongs to an F line of these numbers and this name
module _ (o d e p : ℕ) (name : Str) (offset : fits 32 o ≡ true) (explicit : is_flag e ≡ true) (option : is_flag p ≡ true) where
  tell-slot :
      (rs : Rows)
      → Tells (λ s rest. (print_field o d e p name ∷ rs ≡ arm_rows name d (slot s) rest) × (slot_fits s ≡ true))
      (read_slot o e p rs)
  unfolding read_slot
  tell-slot rs =
      tells_then _ (tell_type 16 rs) (λ t vs x.
      tells_then _ (tell_value vs) (λ v us y.
      tells_map _ (tell_words (has_words e v.kind) us) (λ ws rest z.
      let head : Rows → Rows = λ rs. print_field o d e p name ∷ rs in
      let value : Rows → Rows = λ rs. print_value v.kind v.bits ∷ rs in (
        ap head (x.0 ∙ ap (type_rows t) (y.0 ∙ ap value z.0)),
        offset and explicit and option and x.1 and y.1 and z.1 and refl,
      ))))

-- the rows rs are a field and the rows after it; fields, with group ids that are new
abbrev FieldAt : Rows → Field → Rows → Type 0
FieldAt rs f rest = (rs ≡ arm_rows f.name f.discriminant f.arm rest) × (field_fits f ≡ true)

tell_field : (rs : Rows) → Tells (FieldAt rs) (read_field rs)
unfolding read_field
tell_field rs =
    tells-field rs (on_group (λ i d name. got (field name d (group i))) (no misplaced))
    (tells-group rs (no misplaced) nothing (λ i d name. got (field name d (group i))) (λ i d w.
    told (w.row, w.fits.2 and most-fits 16 d w.fits.1 and most-id i w.fits.0.0 w.fits.0.1 and refl)))
    (λ o d e p name. map_r (λ sl. field name d (slot sl)) (read_slot o e p)) (λ o d e p w.
    let f = w.fits in
    tells_map (λ sl. field (text_at rs) d (slot sl))
    (tell-slot o d e p (text_at rs) (most-fits 32 o f.0) (most-fits 1 e f.2) (most-fits 1 p f.3) (rest_of rs))
    (λ s rest x. (w.row ∙ x.0, f.4 and most-fits 16 d f.1 and x.1 and refl)))

abbrev pub FieldsAt : List ℕ → Rows → List Field → Rows → Type 0
FieldsAt seen rs fs rest = (rs ≡ field_rows fs rest) × (every field_fits fs ≡ true) × (fresh seen (group_ids fs) ≡ true)

tell_fields_up_to : (n : ℕ) (seen : List ℕ) (rs : Rows) → Tells (FieldsAt seen rs) (fields_up_to n seen rs)
unfolding fields_up_to field_rows every group_ids fresh
tell_fields_up_to zero seen rs = told (refl, refl, refl)
tell_fields_up_to (suc n) seen rs =
    let less = tell_fields_up_to n in
    tells_cond (is_field (line_at rs)) _ (got []) rs
    (λ _. tells_then _ (tell_field rs) (λ f mid x.
    let ids = group_id f.arm in
    tells_cond (overlap ids seen) (λ rest. no (fault 3 2) rs) (map_r (f ∷◌) (fields_up_to n (seen ++ ids))) mid
    (λ _. nothing)
    (λ o. tells_map (f ∷◌) (less (seen ++ ids) mid) (λ fs rest y.
    let new = fresh-arm seen f.arm ∙ true-not (overlap ids seen) o in (
      x.0 ∙ ap (arm_rows f.name f.discriminant f.arm) y.0,
      x.1 and y.1,
      fresh_append seen ids (group_ids fs) ∙ (new and y.2),
    )))))
    (λ _. told (refl, refl, refl))

-- fields that are read are printed
pub tell_fields : (seen : List ℕ) (rs : Rows) → Tells (FieldsAt seen rs) (read_fields seen rs)
unfolding read_fields
tell_fields seen rs = tell_fields_up_to (length rs) seen rs
