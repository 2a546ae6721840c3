-- Laws of one pass: what its text comes to, in each way in which it ends, and whose text it is. Assumes nothing.
use mathlib.Core.Path.{◌≡◌, refl, sym, ap, ◌∙◌}
use mathlib.Core.Bool.{Bool, true, false}
use mathlib.Core.List.{List}
use Rattle.std.specs.Prelude.{Option, None, Some, Result, Ok, Err}
use Prim.Native.Nat.{ℕ, ◌-◌, ◌^◌, ◌<◌}
use native.Mathlib.Omega.{arith}
use borrow.Author.Tests.{le-ltb}
use lib.Dec.{ltb}
use lib.ListN.{length}
use Rattle.text.specs.Bytes.{Str, cond}
use Rattle.text.specs.Answer as text
use Rattle.text.specs.declared.Text.{Text}
use Rattle.text.proofs.Places.{put-placed}
use Rattle.terms.specs.Refusals.{number}
use Rattle.terms.specs.declared.refusals.Refusal.{Refusal}
use Rattle.terms.specs.declared.refusals.Refusal.TheVariants.{NotThere}
use Rattle.tree.specs.Tree as tree
use Rattle.tree.specs.Tree.{Node}
use Rattle.codegen_types.specs.Out.{Out, ok, refused, ◌then◌}
use Rattle.codegen_types.specs.Written.{Writes}
use Rattle.codegen_types.proofs.WrittenLaws.{not-ok, refusal-is}
use Rattle.nodes.specs.Index.{nth, entry_with, Indexed, Finds}
use Rattle.nodes.specs.declared.Entry.{Entry}
use Rattle.nodes.proofs.Laws.{nth-is}
use Rattle.field.specs.Field.{FieldIs, FindsField}
use Rattle.field.specs.declared.Field.{Field}
use Rattle.tree.proofs.OtherLines.{never}
use Rattle.requests.specs.Requests.{there, state_refusal}
use Rattle.requests.specs.Told.{Passed, in_node, level_allowed}
use Rattle.requests.proofs.AnswerLaws.{measured-text, measured-refusal}

-- a text that comes to o, written from the start of l on: whole or longer than l, or refused
pub pass-text : (o : Out Str) (l l' : Str) {t₀ : Text} → t₀.at ≡ 0 → (u : Text) → Writes o l t₀ l' (Ok u) → (n : ℕ)
    → n ≡ u.at → length l < 2 ^ 64 - 1 → Passed o l l' (Ok n)
pass-text o l l' {t₀} z u h n e b = record {
  says = measured-text o z h n e;
  text = λ w f g. let x = (h.text w u f refl).bytes in
      x ∙ put-placed l t₀ w (omega arith) (omega arith) ∙ ap (λ (k : ℕ). text.placed l k w) z;
}

pub pass-refusal : (o : Out Str) (l l' : Str) {t₀ : Text} (e : Refusal) → Writes o l t₀ l' (Err e) → Passed o l l' (Err e)
pass-refusal o l l' e h = record {
  says = measured-refusal o h;
  text = λ w f g. absurd (not-ok (sym (refusal-is o h) ∙ f));
}

-- ---- the level

-- one that is refused, and one that is not
pub pass-level : (size level : ℕ) (f : Unit {0} → Out Str) (l l' : Str) (e : Refusal)
    → Some (number e) ≡ state_refusal size 0 level → Passed (level_allowed level then f) l l' (Err e)
unfolding state_refusal
pass-level size level f l l' e h = go (ltb 8 level) (rw (le-ltb size 0 (omega arith)) at h)
  where
    go : (b : Bool) → ◌≡◌ {A = Option ℕ} (Some (number e)) (cond b (Some 36) None)
        → Passed (cond b (refused 36) (ok tt) then f) l l' (Err e)
    go true h = record { says = ap (λ (o : Option ℕ). Err (known o)) h; text = λ w g. absurd (not-ok g) }
      where
        known : Option ℕ → ℕ
        known (Some k) = k
        known None = 0
    go false h = never cc

pub pass-allowed : (size level : ℕ) (f : Unit {0} → Out Str) (l l' : Str) (r : Result ℕ Refusal)
    → None ≡ state_refusal size 0 level → Passed (f tt) l l' r → Passed (level_allowed level then f) l l' r
unfolding state_refusal
pass-allowed size level f l l' r h p = go (ltb 8 level) (rw (le-ltb size 0 (omega arith)) at h)
  where
    go : (b : Bool) → ◌≡◌ {A = Option ℕ} None (cond b (Some 36) None) → Passed (cond b (refused 36) (ok tt) then f) l l' r
    go true h = never cc
    go false h = p

-- ---- whose text it is

-- a node and a field, each of which may be missing
abbrev in_nodes : Option Node → Option tree.Field → Out (Node × tree.Field)
in_nodes m o = there m then λ n. there o then λ f. ok (n, f)

module _ (s : Str) (nodes : List Node) (index : List ℕ) (x : Indexed s nodes index) (k : ℕ) (o : Option tree.Field)
    (g : Node × tree.Field → Out Str) (l l' : Str) where
  missing : Passed (refused 15) l l' (Err NotThere)
  missing = record { says = refl; text = λ w f. absurd (not-ok f) }

  -- a node that is not there, or a field
  pub nobody : None ≡ entry_with index k → Passed (in_node nodes k o then g) l l' (Err NotThere)
  nobody e = go (nth k nodes) (rw (← e) at (nth-is s nodes index k x))
    where
      go : (m : Option Node) → Finds s index None m → Passed (in_nodes m o then g) l l' (Err NotThere)
      go (Some n) h = absurd h
      go None h = missing

  pub no_field : FindsField s None o → Passed (in_node nodes k o then g) l l' (Err NotThere)
  no_field is = go (nth k nodes) o is
    where
      go : (m : Option Node) (o : Option tree.Field) → FindsField s None o
          → Passed (in_nodes m o then g) l l' (Err NotThere)
      go None o c = missing
      go (Some n) None c = missing
      go (Some n) (Some y) c = absurd c

  -- a text that there is not
  pub no_accessor : ((at : Node × tree.Field) → g at ≡ refused 15) → Passed (in_node nodes k o then g) l l' (Err NotThere)
  no_accessor e = go (nth k nodes) o
    where
      go : (m : Option Node) (o : Option tree.Field) → Passed (in_nodes m o then g) l l' (Err NotThere)
      go None o = missing
      go (Some n) None = missing
      go (Some n) (Some y) = rw (e (n, y)) missing

  -- a field of a node
  pub field-passed : (e : Entry) (f : Field) → Some e ≡ entry_with index k → FindsField s (Some f) o → (r : Result ℕ Refusal)
      → ((at : Node × tree.Field) → at.0.tag_offset ≡ e.tag_offset → FieldIs s f at.1 → Passed (g at) l l' r)
      → Passed (in_node nodes k o then g) l l' r
  field-passed e f has is r p = go (nth k nodes) (rw (← has) at (nth-is s nodes index k x)) o is
    where
      go : (m : Option Node) → Finds s index (Some e) m → (o : Option tree.Field) → FindsField s (Some f) o
          → Passed (in_nodes m o then g) l l' r
      go None b o c = absurd b
      go (Some n) b None c = absurd c
      go (Some n) b (Some y) c = p (n, y) (sym b.tag-offset) c
