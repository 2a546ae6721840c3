-- What the entry answers, and what is told of every sheet that has these bytes and this index. Assumes nothing.
use Rattle.std.specs.Prelude.{◌≡◌, List, ℕ, ◌-◌, ◌^◌, ◌≤◌, ltb, min, length, take, Option, Result, Ok, Err}
use Rattle.text.specs.Bytes.{Str, cond}
use Rattle.text.specs.Answer as text
use Rattle.text.specs.declared.Text.{Text}
use Rattle.terms.specs.Refusals.{number}
use Rattle.terms.specs.declared.refusals.Refusal.{Refusal}
use Rattle.tree.specs.Tree as tree
use Rattle.tree.specs.Tree.{Node, Sheet}
use Rattle.codegen_types.specs.Out.{Out, ok, refused, ◌then◌}
use Rattle.codegen_types.specs.Written.{Writes}
use Rattle.nodes.specs.Index.{nth, InSource}
use Rattle.nodes.specs.declared.Source.{Source}
use Rattle.sheet.specs.declared.Refused.{Refused}
use Rattle.field.specs.Field.{FieldIs, FindsField}
use Rattle.field.specs.declared.Field.{Field}
use Rattle.requests.specs.Requests.{there, accessor_text, request_text, Outcome, outcome, entry_answer, entry_buffer}
use Rattle.requests.specs.declared.Accessor.{Accessor}
use Rattle.requests.specs.declared.Request.{Request}

-- the entry's answer as document 01's numbers
abbrev pub in_numbers : Result Text Refused → text.Answer
in_numbers (Ok t) = text.done t.at
in_numbers (Err r) = text.refused (number r.refusal) r.line r.column

-- the state after a text has the level of the state before
abbrev pub SameLevel : Text → Result Text Refused → Type 0
SameLevel t (Ok u) = u.level ≡ t.level
SameLevel t (Err e) = Unit {0}

-- the whole contract of the entry: a request that comes to o, over the buffer l at the state t, leaves l' and answers r
pub record Answered (l : Str) (t : Text) (o : Outcome) (l' : Str) (r : Result Text Refused) : Type 0 where
  pub answer : in_numbers r ≡ entry_answer l t.at t.level o
  pub buffer : l' ≡ entry_buffer l t.at t.level o
  pub level : SameLevel t r

-- the state is one that a text may be put at: 21 and 36 don't hold
abbrev pub StateAllowed : Str → Text → Type 0
StateAllowed l t = (t.at ≤ length l) × (t.level ≤ 8)

-- a refusal that names no line
abbrev pub unplaced : Refusal → Refused
unplaced e = record { refusal = e; line = 0; column = 0 }

abbrev pub all_unplaced : Result Text Refusal → Result Text Refused
all_unplaced (Ok t) = Ok t
all_unplaced (Err e) = Err (unplaced e)

-- over any index: a refusal changes no byte; after a text no byte before the fill count has changed, the new count is neither
-- below the old one nor past the end, and the level is the old one
abbrev pub AnswerWithin : {E : Type 0} → Str → Text → Str → Result Text E → Type 0
AnswerWithin l t l' (Ok u) = (take t.at l' ≡ take t.at l) × (t.at ≤ u.at) × (u.at ≤ length l) × (u.level ≡ t.level)
AnswerWithin l t l' (Err e) = l' ≡ l

-- the length of a text, or the papers' number of its refusal. A count stops at the largest usize
abbrev pub length_of : Out Str → Result ℕ ℕ
length_of (ok w) = Ok (min (length w) (2 ^ 64 - 1))
length_of (refused k) = Err k

-- the same, as the code says it
abbrev pub length_said : Result ℕ Refusal → Result ℕ ℕ
length_said (Ok n) = Ok n
length_said (Err e) = Err (number e)

-- a text that comes to o, written in one pass from the start of l on, leaves l' and answers r: where it is longer than l, or
-- refused, l' may be any
pub record Passed (o : Out Str) (l l' : Str) (r : Result ℕ Refusal) : Type 0 where
  pub says : length_said r ≡ length_of o
  pub text : (w : Str) → o ≡ ok w → length w ≤ length l → l' ≡ text.placed l 0 w

-- the node with a number, from 0, and a field, if there is one; 15 where there is no such node or no field
abbrev pub in_node : List Node → ℕ → Option tree.Field → Out (Node × tree.Field)
in_node nodes number o = there (nth number nodes) then λ n. there o then λ f. ok (n, f)

-- a level of indentation; 36 above 8
abbrev pub level_allowed : ℕ → Out (Unit {0})
level_allowed level = cond (ltb 8 level) (refused 36) (ok tt)

-- a text at a level of a field, if there is one, of the node with a number; where there is no such text, 15
abbrev pub text_in : Sheet → ℕ → Option tree.Field → Option Accessor → ℕ → Out Str
text_in sheet number o accessor level =
    level_allowed level then λ u.
    in_node sheet.nodes number o then λ at.
    there accessor then λ a.
    accessor_text sheet at a level

-- what is told of a field that was read and of a node with this tag, in every sheet whose nodes the index has
abbrev pub OfField : Source → ℕ → Field → (Sheet → Node × tree.Field → Type 0) → Type 0
OfField x tag f P =
    InSource x (λ sheet. (at : Node × tree.Field) → at.0.tag_offset ≡ tag → FieldIs x.bytes.now f at.1 → P sheet at)

-- the contracts, over a sheet with its index
module _ (x : Source) where
  abbrev pub AccessorWritten : ℕ → Field → Accessor → List ℕ → Text → List ℕ → Result Text Refusal → Type 0
  AccessorWritten tag f accessor l t l' r =
      OfField x tag f (λ sheet at. Writes (accessor_text sheet at accessor t.level) l t l' r)

  -- the length of an accessor at a level, or its refusal
  abbrev pub AccessorMeasured : ℕ → Field → Accessor → ℕ → Result ℕ Refusal → Type 0
  AccessorMeasured tag f accessor level r =
      OfField x tag f (λ sheet at. length_said r ≡ length_of (accessor_text sheet at accessor level))

  -- the answer to any request of a node
  abbrev pub RequestAnswered : ℕ → Option Request → List ℕ → Text → List ℕ → Result Text Refused → Type 0
  RequestAnswered id request l t l' r =
      InSource x (λ sheet. Answered l t (outcome (request_text sheet id request t.level)) l' r)

  -- one pass for a text of a field that was read, in the node with a number
  abbrev pub TextPassed : ℕ → Option Field → Option Accessor → ℕ → Str → Str → Result ℕ Refusal → Type 0
  TextPassed number f accessor level l l' r =
      InSource x
      (λ sheet. (o : Option tree.Field) → FindsField x.bytes.now f o → Passed (text_in sheet number o accessor level) l l' r)
