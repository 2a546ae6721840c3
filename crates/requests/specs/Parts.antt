-- What the private parts of the code say, in the terms of the definitions. Assumes nothing.
use Rattle.std.specs.Prelude.{◌≡◌, List, Bool, false, not, ℕ, ◌-◌, eqb, Option, None, Some, Result}
use Rattle.text.specs.Bytes.{cond}
use Rattle.text.specs.declared.Text.{Text}
use Rattle.terms.specs.declared.refusals.Refusal.{Refusal}
use Rattle.tree.specs.Tree as tree
use Rattle.tree.specs.Tree.{Node}
use Rattle.codegen_types.specs.Out.{Out, ok, refused}
use Rattle.nodes.specs.Index.{Indexed, InSource}
use Rattle.nodes.specs.declared.Source.{Source}
use Rattle.field.specs.Field.{FieldIs}
use Rattle.field.specs.declared.Field.{Field}
use Rattle.field.specs.declared.Field.TheVariants as field
use Rattle.requests.specs.Requests.{field_at, accessor_text, outcome, request_text}
use Rattle.requests.specs.Told.{Answered, OfField, all_unplaced}
use Rattle.requests.specs.declared.Accessor.{Accessor}
use Rattle.requests.specs.declared.Request.{Request}
use Rattle.requests.specs.declared.Located.{Located}

-- whether a field's type may have a brand with scopes: not where from the type to the words there is just room for one row of T,
-- or for two, and a V row
abbrev pub may_have_scopes : Field → Bool
may_have_scopes (field.Slot slot) =
    cond (eqb (slot.words - slot.typ) 130) false (not (eqb (slot.words - slot.typ) 216))
may_have_scopes (field.Group group) = false

-- a field that was found and the offset of its node's tag; nothing where there is none, which is 15
abbrev pub Locates : List ℕ → Option Located → Out (Node × tree.Field) → Type 0
Locates s (Some r) (ok at) = (at.0.tag_offset ≡ r.tag) × FieldIs s r.field at.1
Locates s (Some r) (refused k) = ⊥
Locates s None (ok at) = ⊥
Locates s None (refused k) = k ≡ 15

-- the contracts, over a sheet with its index
module _ (x : Source) where
  abbrev pub LocatedIn : ℕ → ℕ → Option Located → Type 0
  LocatedIn id place r =
      (nodes : List Node) → Indexed x.bytes.now nodes x.index.now → Locates x.bytes.now r (field_at nodes id place)

  -- the answer for a field that was found
  abbrev pub FieldAnswered : ℕ → Field → Accessor → List ℕ → Text → List ℕ → Result Text Refusal → Type 0
  FieldAnswered tag f accessor l t l' r =
      OfField x tag f (λ sheet at. Answered l t (outcome (accessor_text sheet at accessor t.level)) l' (all_unplaced r))

  -- the answer to any request
  abbrev pub RequestAsked : ℕ → Option Request → List ℕ → Text → List ℕ → Result Text Refusal → Type 0
  RequestAsked id request l t l' r =
      InSource x (λ sheet. Answered l t (outcome (request_text sheet id request t.level)) l' (all_unplaced r))
