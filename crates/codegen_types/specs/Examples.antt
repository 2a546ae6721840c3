-- Worked texts and refusals of types, computed: a table of what is easy to get wrong, and one theorem over its rows; and the
-- leaves at their numbers. Assumes nothing.
use Rattle.std.specs.Prelude.{◌≡◌, refl, List, [], ◌∷◌, map, ℕ, zero, suc, ◌+◌, Some}
use Prim.Native.String.{String}
use Rattle.text.specs.Bytes.{Str, ascii}
use Rattle.text.specs.Lines.{join}
use Rattle.tree.specs.Tree.{Ty, plain, list, enum, struct, interface, any_pointer, parameter, Scopes, end, inherit, bind, Binds}
use Rattle.tree.specs.Tree.{stop, unbound, bound, Node, Sheet}
use Rattle.tree.specs.Worked.{worked_node, worked_sheet}
use Rattle.nodes.specs.Index.{by_id, nth}
use Rattle.codegen_types.specs.Out.{Out, ok, refused}
use Rattle.codegen_types.specs.Leaf.{leaf_number, leaf_of}
use Rattle.codegen_types.specs.TypeString.{type_string, scopes_of, bindings_of, node_of, scope_of, all_of, arguments_of}
use Rattle.codegen_types.specs.TypeString.{accumulate, outermost_first, angled, do_branding, list_string}
use Rattle.codegen_types.specs.TypeString.{parameter_name, parameter_string}
use Rattle.codegen_types.specs.declared.Leaf.{Leaf}
use Rattle.codegen_types.specs.declared.Leaf.TheVariants.{Reader, Builder, Owned, Client, Server, ServerDispatch}
use Rattle.codegen_types.specs.declared.Leaf.TheVariants.{Pipeline, GetType}
use Rattle.codegen_types.specs.declared.Lifetime.TheVariants.{A, Anonymous}

-- a node by its id, its parent's, its module and its parameters
abbrev node : ℕ → ℕ → String → List Str → Node
node i p m ps = worked_node i p 1 0 0 m ps []

-- nodes 100 + n down to 100, each the parent of the one before it
unfoldable chained : ℕ → List Node
chained zero = node 100 0 "last" [] ∷ []
chained (suc n) = node (101 + n) (100 + n) "link" [] ∷ chained n

-- bed; map<K,V> with entry in it and deep<E> in that; a node whose parent is not there; two nodes in a cycle; a chain of 17
abbrev sheet : Sheet
sheet = worked_sheet (
    node 7 0 "bed" []
    ∷ node 1 0 "map" (ascii "K" ∷ ascii "V" ∷ [])
    ∷ node 2 1 "map::entry" []
    ∷ node 3 2 "map::entry::deep" (ascii "E" ∷ [])
    ∷ node 4 99 "lost" []
    ∷ node 5 6 "left" []
    ∷ node 6 5 "right" []
    ∷ chained 16)

-- a type, the leaf asked for, and the text or the refusal
record Row : Type 0 where
  type : Ty
  leaf : Leaf
  answer : Out Str

abbrev row : Ty → Leaf → Out Str → Row
row t l o = record { type = t; leaf = l; answer = o }

abbrev void : Ty
void = plain 0

-- two bindings for map
abbrev pair : Binds → Scopes → Scopes
pair bs ss = bind 1 bs ss

table : List Row
table =
    -- leaves
    row (struct 7 end) (Reader A) (ok (ascii "bed::Reader<'a>"))
    ∷ row (struct 7 end) (Builder Anonymous) (ok (ascii "bed::Builder<'_>"))
    ∷ row (struct 7 end) ServerDispatch (ok (ascii "bed::ServerDispatch::<_T>"))
    -- the lifetime, then outermost to innermost: bound, inherited, unbound, and no scope
    ∷ row (struct 3 (pair (bound (plain 12) (unbound stop)) (inherit 3 end))) (Reader A)
    (ok (ascii "map::entry::deep::Reader<'a,::capnp::text::Owned,::capnp::any_pointer::Owned,E>"))
    ∷ row (struct 3 (inherit 1 end)) GetType (ok (ascii "map::entry::deep::get_type::<K,V,::capnp::any_pointer::Owned>"))
    ∷ row (interface 1 (pair (bound (struct 7 end) (bound (parameter 3 0) stop)) end)) Client
    (ok (ascii "map::Client<bed::Owned,E>"))
    -- of two scopes with one id the later counts; a scope off the chain is never looked at
    ∷ row (struct 1 (pair (bound (list any_pointer) stop) (inherit 1 end))) Owned (ok (ascii "map::Owned<K,V>"))
    ∷ row (struct 1 (inherit 1 (pair (unbound stop) end))) Owned (refused 8)
    ∷ row (struct 7 (pair (bound (list any_pointer) stop) end)) Owned (ok (ascii "bed::Owned"))
    -- lists: the bare name, but for texts and data
    ∷ row (list (list void)) (Reader A) (ok (ascii "::capnp::list_list::Reader<'a,::capnp::primitive_list::Owned<()>>"))
    ∷ row (list (interface 7 end)) (Builder A) (ok (ascii "::capnp::capability_list::Builder<'a,bed::Client>"))
    ∷ row (list (enum 7 end)) Owned (ok (ascii "::capnp::enum_list::Owned<bed>"))
    ∷ row (list (plain 12)) (Reader Anonymous) (ok (ascii "::capnp::text_list::Reader<'_>"))
    ∷ row (list any_pointer) (Reader A) (refused 6)
    ∷ row (list (parameter 99 0)) (Reader A) (refused 6)
    -- parameters: 5 and 13 before 7
    ∷ row (parameter 1 1) Pipeline (ok (ascii "<V as ::capnp::traits::Pipelined>::Pipeline"))
    ∷ row (parameter 99 2) GetType (refused 5)
    ∷ row (parameter 1 2) GetType (refused 13)
    ∷ row (parameter 1 1) GetType (refused 7)
    -- chains: 16 nodes pass and 17 do not; parents that are not there; a cycle; a node's own fault before its parents'
    ∷ row (struct 115 end) Owned (ok (ascii "link::Owned"))
    ∷ row (struct 116 end) Owned (refused 4)
    ∷ row (struct 4 end) Owned (refused 5)
    ∷ row (struct 5 end) Owned (refused 4)
    ∷ row (struct 5 (bind 6 (bound (list any_pointer) stop) end)) Owned (refused 8)
    ∷ row (struct 4 (bind 4 (unbound stop) end)) Owned (refused 8)
    -- enums ignore brands and walk no chain
    ∷ row (enum 5 (bind 5 (unbound stop) end)) Owned (ok (ascii "left"))
    ∷ []

worked : map (λ (r : Row). type_string r.type sheet r.leaf) table ≡ map (λ (r : Row). r.answer) table
unfolding table chained type_string scopes_of bindings_of node_of by_id nth scope_of all_of arguments_of accumulate
    outermost_first join angled do_branding list_string parameter_name parameter_string
worked = refl

-- each leaf stands at its number
pub numbered : (leaf : Leaf) → leaf_of (leaf_number leaf) ≡ Some leaf
unfolding leaf_of nth
numbered (Reader A) = refl
numbered (Reader Anonymous) = refl
numbered (Builder A) = refl
numbered (Builder Anonymous) = refl
numbered Owned = refl
numbered Client = refl
numbered Server = refl
numbered ServerDispatch = refl
numbered Pipeline = refl
numbered GetType = refl
