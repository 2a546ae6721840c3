-- What the writers of a brand leave: its arguments, each after `<` or a comma, or their refusal. Assumes nothing.
use Rattle.std.specs.Prelude.{◌≡◌, List, [], ◌∷◌, ◌++◌, ℕ, eqb, Result, Ok, Err}
use Rattle.text.specs.Bytes.{Str, ascii, unit, cond}
use Rattle.text.specs.Text.{Wrote, WroteSome}
use Rattle.text.specs.declared.Text.{Text}
use Rattle.codegen_types.specs.Out.{Out, ok, refusal_of}
use Rattle.terms.specs.declared.refusals.Refusal.{Refusal}
use Rattle.codegen_types.specs.Written.{refusal_number, Kept}
use Rattle.codegen_types.specs.Leaf.{bare_name, maybe_colons, leaf_arguments}
use Rattle.codegen_types.specs.declared.Leaf.{Leaf}
use Rattle.type_parts.specs.declared.Arguments.{Arguments}

-- arguments, the first of them after the byte b, each other one after a comma
unfoldable pub listed : ℕ → List Str → Str
listed b [] = []
listed b (w ∷ ws) = unit b ++ w ++ listed 44 ws

-- the byte before the next argument
unfoldable pub sep_after : ℕ → List Str → ℕ
sep_after b [] = b
sep_after b (w ∷ ws) = 44

-- what ends the arguments: nothing where there are none
abbrev pub closer : ℕ → Str
closer b = cond (eqb b 44) (ascii ">") []

-- the arguments ws, written after those of p into l
pub record Listed (l : List ℕ) (p : Arguments) (ws : List Str) (l' : List ℕ) (p' : Arguments) : Type 0 where
  pub text : Wrote l p.text (listed p.sep ws) l' p'.text
  pub sep : p'.sep ≡ sep_after p.sep ws

-- arguments that the Rust gives, written after those of p into l: their refusal, or all of them; those that are refused count
-- for nothing
pub record Lists (o : Out (List Str)) (l : List ℕ) (p : Arguments) (l' : List ℕ) (r : Result Arguments Refusal) : Type 0 where
  pub refusal : refusal_number r ≡ refusal_of o
  pub listed : (ws : List Str) (q : Arguments) → o ≡ ok ws → r ≡ Ok q → Listed l p ws l' q

-- what is written after p into l in any case: some text, or, where it is refused, nothing before the fill count
abbrev pub WithinArguments : List ℕ → Arguments → List ℕ → Result Arguments Refusal → Type 0
WithinArguments l p l' (Ok q) = WroteSome l p.text l' q.text
WithinArguments l p l' (Err e) = Kept l p.text l'

-- a brand's text between its module and its arguments, and the leaf's own argument
pub record Opened (l : List ℕ) (t : Text) (leaf : Leaf) (l' : List ℕ) (p : Arguments) : Type 0 where
  pub text : Wrote l t (ascii "::" ++ bare_name leaf ++ maybe_colons leaf ++ listed 60 (leaf_arguments leaf)) l' p.text
  pub sep : p.sep ≡ sep_after 60 (leaf_arguments leaf)
