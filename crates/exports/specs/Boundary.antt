-- What the exported functions answer: the fill count after a text, or that nothing was taken; what a sheet is; what a request
-- answers; what an index tells of a sheet's nodes, and a position of its fields. Assumes nothing.
use Rattle.std.specs.Prelude.{◌≡◌, Bool, true, false, List, [], ◌∷◌, ℕ, ◌-◌, ◌%◌, ◌^◌, ◌≤◌, min, eqb, ltb, length, take, drop}
use Rattle.std.specs.Prelude.{Option, None, Some}
use Rattle.terms.specs.Kinds.{number_of}
use Rattle.text.specs.Bytes.{Str, cond, either}
use Rattle.text.specs.Decimal.{signed}
use Rattle.text.specs.Text.{adv, put, state_at}
use Rattle.names.specs.Names.{taken}
use Rattle.text.specs.Answer as text
use Rattle.row.specs.Rows.{rows}
use Rattle.row.specs.Line as line
use Rattle.row.specs.Span.{span_between}
use Rattle.row.specs.declared.Span.{Span}
use Rattle.tree.specs.Tree as tree
use Rattle.tree.specs.Tree.{Arm, slot, group, Node, Sheet}
use Rattle.tree.specs.Read.{Admitted, sheet, refused, admitted}
use Rattle.tree.specs.Fields.{FieldsHere}
use Rattle.nodes.specs.Index.{nth, Indexed, ForAll}
use Rattle.nodes.specs.declared.Entry.{Entry}
use Rattle.sheet.specs.Admission.{IndexOf}
use Rattle.codegen_types.specs.Out as refusal
use Rattle.codegen_types.specs.Out.{Out, ok, ◌then◌}
use Rattle.codegen_types.specs.Leaf.{leaf_of}
use Rattle.field.specs.Field.{ReadsFirst, Fewer, FindsField}
use Rattle.field.specs.Numbers.{field_size, field_in, with_field}
use Rattle.field.specs.declared.Field.{Field}
use Rattle.field.specs.declared.Field.TheVariants as field
use Rattle.requests.specs.Requests.{of_field, Outcome, outcome_of, entry_answer, entry_buffer}
use Rattle.requests.specs.Told.{text_in}
use Rattle.verdict.specs.Verdict.{verdict_in}
use Rattle.verdict.specs.declared.Verdict.{Verdict}
use Rattle.verdict.specs.declared.Verdict.TheVariants.{Agree, SignFlipped, CombinedWithDefault, NotBothGenerated}
use Rattle.requests.specs.declared.Request.{Request}
use Rattle.requests.specs.declared.Accessor.{Accessor}
use Rattle.requests.specs.declared.Accessor.TheVariants.{TypeText, Getter, Setter, PairedSetter, Haser, Zeroing}

-- where it is taken, the text s is written at a fill count into l, which leaves l' and the fill count r, which stops at
-- 2 ^ 64 - 2; else nothing is written, and the answer is 2 ^ 64 - 1, which is no fill count
pub record FillsIf (is_taken : Bool) (l : Str) (at : ℕ) (s : Str) (l' : Str) (r : ℕ) : Type 0 where
  pub bytes : l' ≡ cond is_taken (put l (state_at at) s) l
  pub fill : r ≡ cond is_taken (min (adv (state_at at) s).at (2 ^ 64 - 2)) (2 ^ 64 - 1)

-- a text that is written in any case
abbrev pub Fills : Str → ℕ → Str → Str → ℕ → Type 0
Fills = FillsIf true

-- the text that a definition gives for a name, where the name is taken
abbrev pub FillsName : Str → ℕ → (Str → Str) → Str → Str → ℕ → Type 0
FillsName l at f name = FillsIf (taken name) l at (f name)

-- a width of numbers
abbrev pub is_width : ℕ → Bool
is_width w = either (eqb w 8) (either (eqb w 16) (either (eqb w 32) (eqb w 64)))

-- the number whose bits in two's complement are the lowest w of n, where there is such a width
abbrev pub Signed : Str → ℕ → ℕ → ℕ → Str → ℕ → Type 0
Signed l at w n = FillsIf (is_width w) l at (signed (2 ^ (w - 1)) (n % 2 ^ w))

-- document 01's number, line and column for what is admitted of a sheet: 0 where it has a tree
abbrev pub number_told : Admitted → ℕ
number_told (sheet sh) = 0
number_told (refused k l c) = k

abbrev pub line_told : Admitted → ℕ
line_told (sheet sh) = 0
line_told (refused k l c) = l

abbrev pub column_told : Admitted → ℕ
column_told (sheet sh) = 0
column_told (refused k l c) = c

pub record Told (a : Admitted) (number line column : ℕ) : Type 0 where
  pub number_is : number ≡ number_told a
  pub line-is : line ≡ line_told a
  pub column-is : column ≡ column_told a

-- an answer by its number, its line, its column and the fill count that it leaves: 0 where there is a text, and a refusal leaves
-- the count
abbrev pub number_in : text.Answer → ℕ
number_in (text.done n) = 0
number_in (text.refused k line column) = k

abbrev pub line_in : text.Answer → ℕ
line_in (text.done n) = 0
line_in (text.refused k line column) = line

abbrev pub column_in : text.Answer → ℕ
column_in (text.done n) = 0
column_in (text.refused k line column) = column

abbrev pub fill_in : ℕ → text.Answer → ℕ
fill_in fill (text.done n) = n
fill_in fill (text.refused k line column) = fill

-- what a request answers and leaves of the buffer, at a level, over a buffer and a fill count
pub record Reply : Type 0 where
  pub answer : text.Answer
  pub buffer : Str

unfoldable pub reply_of : Outcome → ℕ → Str → ℕ → Reply
reply_of o level l fill = record { answer = entry_answer l fill level o; buffer = entry_buffer l fill level o }

-- a request of a node at a level, over a sheet
abbrev pub ask : Admitted → ℕ → Option Request → ℕ → Str → ℕ → Reply
ask a id request level = reply_of (outcome_of a id request level) level

-- the texts of a field by their numbers; a type's text is asked for the leaf with a number
abbrev pub accessors : ℕ → List Accessor
accessors leaf =
    TypeText (leaf_of leaf)
    ∷ Getter true false ∷ Getter false false ∷ Getter true true ∷ Getter false true
    ∷ Setter ∷ Haser true ∷ Haser false ∷ Zeroing ∷ PairedSetter ∷ []

-- no other number is a text's
unfoldable pub accessor_numbered : ℕ → ℕ → Option Accessor
accessor_numbered number leaf = nth number (accessors leaf)

-- the request for such a text of the field at a place; what has no text is no request, which is 15
abbrev pub requested : ℕ → Option Accessor → Option Request
requested place (Some accessor) = of_field place accessor
requested place None = None

abbrev pub request_of : ℕ → ℕ → ℕ → Option Request
request_of number place leaf = requested place (accessor_numbered number leaf)

-- over the buffer l and a fill count, a reply leaves l' and fill', and is told by a number, a line and a column
pub record Asked (l : Str) (fill : ℕ) (reply : Str → ℕ → Reply) (l' : Str) (fill' number line column : ℕ) : Type 0 where
  pub number_is : number ≡ number_in (reply l fill).answer
  pub line-is : line ≡ line_in (reply l fill).answer
  pub column-is : column ≡ column_in (reply l fill).answer
  pub fill_is : fill' ≡ fill_in fill (reply l fill).answer
  pub buffer-is : l' ≡ (reply l fill).buffer

-- ---- over an index

-- whatever nodes of s the index has: so it is for the sheet with these nodes
abbrev pub OverIndex : Str → List ℕ → (Admitted → Type 0) → Type 0
OverIndex s index P = ForAll (line.text_at (rows s)) s index (λ sh. P (sheet sh))

-- over any index and any bytes: no byte before the fill count changes, and the count neither falls nor passes the end; a refusal
-- changes nothing
pub record AskedWithin (l : Str) (fill : ℕ) (l' : Str) (fill' number : ℕ) : Type 0 where
  pub before : take fill l' ≡ take fill l
  pub not-below : fill ≤ fill'
  pub not-past : fill ≤ length l → fill' ≤ length l
  pub refused_so : (number ≡ 0 → ⊥) → (l' ≡ l) × (fill' ≡ fill)

-- over the index that `kitlubas_index` fills for an admitted sheet, what `kitlubas_answer_in` promises of a request is what
-- `kitlubas_answer` promises
abbrev pub SameAnswersHold : Type 0
SameAnswersHold =
    (s index : List ℕ) (sh : Sheet) → admitted s ≡ sheet sh → IndexOf s (admitted s) index
    → (id : ℕ) (request : Option Request) (level : ℕ) (l : Str) (fill : ℕ) (l' : Str) (fill' number line column : ℕ)
    → OverIndex s index (λ a. Asked l fill (ask a id request level) l' fill' number line column)
    → Asked l fill (ask (admitted s) id request level) l' fill' number line column

-- the length of a text, 0 where there is none
abbrev pub length_told : Option ℕ → ℕ
length_told (Some n) = n
length_told None = 0

-- document 01's number for a pass over a text, 0 where the whole text is there, and the length of the text, if there is one,
-- where there is room for so many bytes. A count stops at the largest usize
abbrev pub pass_of : ℕ → Out Str → ℕ × Option ℕ
pass_of room (ok w) = cond (ltb room (length w)) (22, Some (min (length w) (2 ^ 64 - 1))) (0, Some (length w))
pass_of room (refusal.refused k) = (k, None)

-- a text that comes to o, written in one pass from the start of l on, leaves l', and is told by a number and a length
pub record PassTold (o : Out Str) (l l' : Str) (number size : ℕ) : Type 0 where
  pub number_is : number ≡ (pass_of (length l) o).0
  pub length-is : size ≡ length_told (pass_of (length l) o).1
  pub text : (w : Str) → o ≡ ok w → length w ≤ length l → l' ≡ text.placed l 0 w

-- a text at a level of the field with these numbers, in the node with a number
abbrev pub TextTold : Str → List ℕ → ℕ → List ℕ → Option Accessor → ℕ → Str → Str → ℕ → ℕ → Type 0
TextTold s index node numbers accessor level l l' number size =
    ForAll (line.text_at (rows s)) s index
    (λ sh. (o : Option tree.Field) → FindsField s (field_in numbers) o
    → PassTold (text_in sh node o accessor level) l l' number size)

-- a verdict by its number
abbrev pub verdict_number : Verdict → ℕ
verdict_number Agree = 0
verdict_number SignFlipped = 1
verdict_number CombinedWithDefault = 2
verdict_number NotBothGenerated = 3

-- the answer to a question of a verdict: 0 and the verdict's number, or the refusal's number and 0
abbrev pub verdict_numbers : Out Verdict → ℕ × ℕ
verdict_numbers (ok v) = (0, verdict_number v)
verdict_numbers (refusal.refused k) = (k, 0)

-- the verdict of the field with these numbers, in the node with a number
abbrev pub VerdictNumbered : Str → List ℕ → ℕ → List ℕ → ℕ → ℕ → Type 0
VerdictNumbered s index node numbers number verdict =
    ForAll (line.text_at (rows s)) s index
    (λ sh. (o : Option tree.Field) → FindsField s (field_in numbers) o
    → (number, verdict) ≡ verdict_numbers (verdict_in sh node o))

-- a span is told by its place and its length
abbrev pub SpanTold : Span → ℕ → ℕ → Type 0
SpanTold p at size = (at ≡ p.start) × (size ≡ p.end - p.start)

-- a node is told by its id, the place and the length of its module in s, and where its first field stands
pub record NodeIs (s : Str) (n : Node) (number id at size first : ℕ) : Type 0 where
  pub number_is : number ≡ 0
  pub id-is : id ≡ n.id
  pub module-is : take size (drop at s) ≡ n.the_mod
  pub fields-here : FieldsHere (rows (drop first s)) n.fields

-- 15 and zeros where there is none
abbrev pub NodeSaid : Str → Option Node → ℕ → ℕ → ℕ → ℕ → ℕ → Type 0
NodeSaid s (Some n) number id at size first = NodeIs s n number id at size first
NodeSaid s None number id at size first = (number ≡ 15) × (id ≡ 0) × (at ≡ 0) × (size ≡ 0) × (first ≡ 0)

-- the node with a number
abbrev pub NodeTold : Str → List ℕ → ℕ → ℕ → ℕ → ℕ → ℕ → ℕ → Type 0
NodeTold s index k number id at size first =
    (ns : List Node) → Indexed s ns index → NodeSaid s (nth k ns) number id at size first

-- over any index: what is told is of the entry with the number, its module being the text of the row where it says that the N
-- line stands; 15 and zeros where there is none
abbrev pub EntryTold : Str → Option Entry → ℕ → ℕ → ℕ → ℕ → ℕ → Type 0
EntryTold s (Some e) number id at size first =
    (number ≡ 0) × (id ≡ e.id) × SpanTold (span_between s e.at e.params) at size × (first ≡ e.fields)
EntryTold s None number id at size first = (number ≡ 15) × (id ≡ 0) × (at ≡ 0) × (size ≡ 0) × (first ≡ 0)

-- a field's kind: that of a slot's type, or 19 for a group
abbrev pub kind_told : Arm → ℕ
kind_told (slot sl) = tree.kind sl.ty
kind_told (group id) = 19

-- a field is told by its kind, the place and the length of its name in s, and where those after it stand
pub record FieldTold (s : Str) (f : tree.Field) (fs : List tree.Field) (number kind at size next : ℕ) : Type 0 where
  pub number_is : number ≡ 0
  pub kind-is : kind ≡ kind_told f.arm
  pub name-is : take size (drop at s) ≡ f.name
  pub fields-here : FieldsHere (rows (drop next s)) fs

-- 15 and zeros where there is none
abbrev pub FieldSaid : Str → List tree.Field → ℕ → ℕ → ℕ → ℕ → ℕ → Type 0
FieldSaid s [] number kind at size next = (number ≡ 15) × (kind ≡ 0) × (at ≡ 0) × (size ≡ 0) × (next ≡ 0)
FieldSaid s (f ∷ fs) number kind at size next = FieldTold s f fs number kind at size next

-- the first of the fields at a position
abbrev pub FirstTold : Str → ℕ → ℕ → ℕ → ℕ → ℕ → ℕ → Type 0
FirstTold s from number kind at size next =
    (fs : List tree.Field) → FieldsHere (rows (drop from s)) fs → FieldSaid s fs number kind at size next

-- the numbers that are put into l, where there is room for them, are those of the first of the fields at a position
abbrev pub FirstPut : Str → ℕ → List ℕ → List ℕ → Type 0
FirstPut s from l numbers =
    field_size ≤ length l → (fs : List tree.Field) → FieldsHere (rows (drop from s)) fs
    → FindsField s (field_in numbers) (nth 0 fs)

-- what is told of a field by value: its name is the text of the row where it says that its F or G line stands; 15 and zeros for
-- nothing
abbrev pub ValueTold : Str → Option Field → ℕ → ℕ → ℕ → ℕ → ℕ → Type 0
ValueTold s (Some (field.Slot r)) number kind at size next =
    (number ≡ 0) × (kind ≡ number_of r.kind) × SpanTold (span_between s r.at r.typ) at size × (next ≡ r.next)
ValueTold s (Some (field.Group g)) number kind at size next =
    (number ≡ 0) × (kind ≡ 19) × SpanTold (span_between s g.at g.next) at size × (next ≡ g.next)
ValueTold s None number kind at size next = (number ≡ 15) × (kind ≡ 0) × (at ≡ 0) × (size ≡ 0) × (next ≡ 0)

-- over any bytes: what is told and what is put into l is of one field by value, which leaves fewer rows, and is the first of the
-- fields at the position where these are fields
pub record ValueRead (s : Str) (from : ℕ) (l l' : List ℕ) (number kind at size next : ℕ) : Type 0 where
  pub value : Option Field
  pub first : (fs : List tree.Field) → FieldsHere (rows (drop from s)) fs → ReadsFirst s value fs
  pub fewer : Fewer s from value
  pub told : ValueTold s value number kind at size next
  pub numbers : l' ≡ with_field l value
