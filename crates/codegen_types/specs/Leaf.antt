-- `Leaf` of codegen_types.rs: its display, its `bare_name`, what `type_string` and `do_branding` ask of it, and its number in a
-- request. Assumes nothing.
use Rattle.std.specs.Prelude.{List, [], ◌∷◌, ◌++◌, ℕ, Option, Result}
use Rattle.std.specs.Option.{ok_or}
use Rattle.text.specs.Bytes.{Str, ascii}
use Rattle.nodes.specs.Index.{nth}
use Rattle.codegen_types.specs.declared.Leaf.{Leaf}
use Rattle.codegen_types.specs.declared.Leaf.TheVariants.{Reader, Builder, Owned, Client, Server, ServerDispatch}
use Rattle.codegen_types.specs.declared.Leaf.TheVariants.{Pipeline, GetType}
use Rattle.codegen_types.specs.declared.NoLeaf.{NoLeaf}
use Rattle.codegen_types.specs.declared.Lifetime.{Lifetime}
use Rattle.codegen_types.specs.declared.Lifetime.TheVariants.{A, Anonymous}

abbrev pub lifetime : Lifetime → Str
lifetime A = ascii "'a"
lifetime Anonymous = ascii "'_"

-- Leaf::bare_name
abbrev pub bare_name : Leaf → Str
bare_name (Reader lt) = ascii "Reader"
bare_name (Builder lt) = ascii "Builder"
bare_name Owned = ascii "Owned"
bare_name Client = ascii "Client"
bare_name Server = ascii "Server"
bare_name ServerDispatch = ascii "ServerDispatch"
bare_name Pipeline = ascii "Pipeline"
bare_name GetType = ascii "get_type"

-- Display for Leaf: the bare name, and the lifetime of a reader or a builder
abbrev pub display : Leaf → Str
display (Reader lt) = ascii "Reader<" ++ lifetime lt ++ ascii ">"
display (Builder lt) = ascii "Builder<" ++ lifetime lt ++ ascii ">"
display Owned = ascii "Owned"
display Client = ascii "Client"
display Server = ascii "Server"
display ServerDispatch = ascii "ServerDispatch"
display Pipeline = ascii "Pipeline"
display GetType = ascii "get_type"

-- type_string's lifetime_comma
abbrev pub lifetime_comma : Leaf → Str
lifetime_comma (Reader lt) = lifetime lt ++ ascii ","
lifetime_comma (Builder lt) = lifetime lt ++ ascii ","
lifetime_comma Owned = []
lifetime_comma Client = []
lifetime_comma Server = []
lifetime_comma ServerDispatch = []
lifetime_comma Pipeline = []
lifetime_comma GetType = []

-- what do_branding pushes last onto its accumulator: the lifetime, or `_T` for ServerDispatch
abbrev pub leaf_arguments : Leaf → List Str
leaf_arguments (Reader lt) = lifetime lt ∷ []
leaf_arguments (Builder lt) = lifetime lt ∷ []
leaf_arguments Owned = []
leaf_arguments Client = []
leaf_arguments Server = []
leaf_arguments ServerDispatch = ascii "_T" ∷ []
leaf_arguments Pipeline = []
leaf_arguments GetType = []

-- do_branding's maybe_colons
abbrev pub maybe_colons : Leaf → Str
maybe_colons (Reader lt) = []
maybe_colons (Builder lt) = []
maybe_colons Owned = []
maybe_colons Client = []
maybe_colons Server = []
maybe_colons ServerDispatch = ascii "::"
maybe_colons Pipeline = []
maybe_colons GetType = ascii "::"

-- document 01's number of each leaf
abbrev pub leaf_number : Leaf → ℕ
leaf_number (Reader A) = 0
leaf_number (Reader Anonymous) = 2
leaf_number (Builder A) = 1
leaf_number (Builder Anonymous) = 3
leaf_number Owned = 4
leaf_number Client = 5
leaf_number Server = 6
leaf_number ServerDispatch = 7
leaf_number Pipeline = 8
leaf_number GetType = 9

-- the leaves by their numbers
abbrev pub leaf_numbers : List Leaf
leaf_numbers =
    Reader A ∷ Builder A ∷ Reader Anonymous ∷ Builder Anonymous
    ∷ Owned ∷ Client ∷ Server ∷ ServerDispatch ∷ Pipeline ∷ GetType ∷ []

-- the leaf with a number; no other number is a leaf's
unfoldable pub leaf_of : ℕ → Option Leaf
leaf_of n = nth n leaf_numbers

-- the same, or the number that no leaf has
abbrev pub leaf_or_number : ℕ → Result Leaf NoLeaf
leaf_or_number n = ok_or (leaf_of n) (record { 0 = n })
