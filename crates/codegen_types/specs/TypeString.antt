-- `type_string`, `do_branding` and `get_qualified_module` over the tree of a sheet, in the Rust's names and order of
-- evaluation: the text, or the refusal that is met first. Assumes nothing.
use Rattle.std.specs.Prelude.{ℕ, zero, suc, Bool, true, false, List, [], ◌∷◌, ◌++◌, map, eqb, leb, length, get_or}
use Rattle.std.specs.Prelude.{Option, None, Some}
use Rattle.text.specs.Bytes.{Str, ascii, cond, both}
use Rattle.text.specs.Lines.{join}
use Rattle.tree.specs.Tree.{Ty, plain, list, enum, struct, interface, any_pointer, parameter, Scopes, end, inherit, bind, Binds}
use Rattle.tree.specs.Tree.{stop, unbound, bound, kind, Node, Sheet}
use Rattle.nodes.specs.Index.{by_id, nth}
use Rattle.codegen_types.specs.Out.{Out, ok, refused, or_refused, ◌then◌}
use Rattle.codegen_types.specs.Leaf.{bare_name, display, lifetime, lifetime_comma, leaf_arguments, maybe_colons}
use Rattle.codegen_types.specs.declared.Leaf.{Leaf}
use Rattle.codegen_types.specs.declared.Leaf.TheVariants.{Reader, Builder, Owned, Client, Server, ServerDispatch}
use Rattle.codegen_types.specs.declared.Leaf.TheVariants.{Pipeline, GetType}

-- is_prim, is_pointer, is_parameter
abbrev pub is_prim : Ty → Bool
is_prim t = leb (kind t) 11

-- pointers are the kinds from Text on, but for Enum
abbrev pub is_pointer_kind : ℕ → Bool
is_pointer_kind k = both (leb 12 k) (cond (eqb k 15) false true)

abbrev pub is_pointer : Ty → Bool
is_pointer t = is_pointer_kind (kind t)

abbrev pub is_parameter : Ty → Bool
is_parameter (plain k) = false
is_parameter (list t) = false
is_parameter (enum i ss) = false
is_parameter (struct i ss) = false
is_parameter (interface i ss) = false
is_parameter any_pointer = false
is_parameter (parameter i k) = true

-- node_map[&id]
unfoldable pub node_of : List Node → ℕ → Out Node
node_of nodes id = or_refused 5 (by_id id nodes)

-- get_qualified_module
abbrev pub get_qualified_module : Sheet → ℕ → Out Str
get_qualified_module sheet id = node_of sheet.nodes id then λ n. ok n.the_mod

-- the texts of the types of one line: Void to Float64 by their kinds
abbrev pub primitives : List Str
primitives =
    ascii "()" ∷ ascii "bool" ∷ ascii "i8" ∷ ascii "i16" ∷ ascii "i32" ∷ ascii "i64"
    ∷ ascii "u8" ∷ ascii "u16" ∷ ascii "u32" ∷ ascii "u64" ∷ ascii "f32" ∷ ascii "f64" ∷ []

abbrev pub plain_string : Str → Leaf → ℕ → Str
plain_string root leaf k =
    cond (eqb k 12) (root ++ ascii "::text::" ++ display leaf)
    (cond (eqb k 13) (root ++ ascii "::data::" ++ display leaf)
    (get_or primitives k []))

-- ---- do_branding

-- a scope of a brand: inherit, or bind with the text or the refusal of each binding
pub data Scope : Type 0 where
  inherited : Scope
  binds : List (Out Str) → Scope

-- brand_scopes.get: of two scopes with one id the later was inserted last
abbrev pub or_else : {A : Type 0} → Option A → Option A → Option A
or_else (Some a) b = Some a
or_else None b = b

unfoldable pub scope_of : ℕ → List (ℕ × Scope) → Option Scope
scope_of id [] = None
scope_of id (s ∷ ss) = or_else (scope_of id ss) (cond (eqb s.0 id) (Some s.1) None)

abbrev pub any_owned : Str → Str
any_owned root = root ++ ascii "::any_pointer::Owned"

-- each text, or the first refusal
unfoldable pub all_of : List (Out Str) → Out (List Str)
all_of [] = ok []
all_of (o ∷ os) = o then λ a. all_of os then λ rest. ok (a ∷ rest)

-- the arguments of one node with these parameters
unfoldable pub arguments_of : Str → List Str → Option Scope → Out (List Str)
arguments_of root params None = ok (map (λ p. any_owned root) params)
arguments_of root params (Some inherited) = ok params
arguments_of root params (Some (binds texts)) = cond (eqb (length texts) (length params)) (all_of texts) (refused 8)

-- the loop: from the node outwards by parents, innermost first; the 17th node is 4 before it is looked up
unfoldable pub accumulate : Sheet → List (ℕ × Scope) → ℕ → ℕ → Out (List (List Str))
accumulate sheet scopes zero id = refused 4
accumulate sheet scopes (suc left) id =
    node_of sheet.nodes id then λ n.
    arguments_of sheet.root n.params (scope_of id scopes) then λ arguments.
    cond (eqb n.parent 0) (ok (arguments ∷ []))
    (accumulate sheet scopes left n.parent then λ outer. ok (arguments ∷ outer))

-- accumulator.reverse() and concat()
unfoldable pub outermost_first : List (List Str) → List Str
outermost_first [] = []
outermost_first (arguments ∷ outer) = outermost_first outer ++ arguments

unfoldable pub angled : List Str → Str
angled [] = []
angled (a ∷ more) = ascii "<" ++ join (ascii ",") (a ∷ more) ++ ascii ">"

unfoldable pub do_branding : Sheet → ℕ → List (ℕ × Scope) → Leaf → Str → Out Str
do_branding sheet id scopes leaf the_mod =
    accumulate sheet scopes 16 id then λ accumulator.
    ok (the_mod ++ ascii "::" ++ bare_name leaf ++ maybe_colons leaf
    ++ angled (leaf_arguments leaf ++ outermost_first accumulator))

-- ---- type_string

-- the list module for an element of this kind
abbrev pub list_module : ℕ → Str
list_module k =
    cond (eqb k 16) (ascii "struct_list") (cond (eqb k 15) (ascii "enum_list") (cond (eqb k 14) (ascii "list_list")
    (cond (eqb k 17) (ascii "capability_list") (ascii "primitive_list"))))

-- the leaf that a list asks of an element of this kind
abbrev pub element_leaf : ℕ → Leaf
element_leaf k = cond (eqb k 17) Client Owned

-- a list, by its element's kind and text
unfoldable pub list_string : Str → Leaf → ℕ → Out Str → Out Str
list_string root leaf k inner =
    cond (eqb k 12) (ok (root ++ ascii "::text_list::" ++ display leaf))
    (cond (eqb k 13) (ok (root ++ ascii "::data_list::" ++ display leaf))
    (cond (eqb k 18) (refused 6)
    (inner then λ t.
    ok (root ++ ascii "::" ++ list_module k ++ ascii "::" ++ bare_name leaf ++ ascii "<" ++ lifetime_comma leaf ++ t ++ ascii
    ">"))))

-- parameters.get(index)
unfoldable pub parameter_name : List Str → ℕ → Out Str
parameter_name params k = or_refused 13 (nth k params)

unfoldable pub parameter_string : Str → Leaf → Str → Out Str
parameter_string root (Reader lt) p = ok (ascii "<" ++ p ++ ascii " as " ++ root ++ ascii "::traits::Owned>::Reader<" ++ lifetime
    lt ++ ascii ">")
parameter_string root (Builder lt) p = ok (ascii "<" ++ p ++ ascii " as " ++ root ++ ascii "::traits::Owned>::Builder<" ++
    lifetime lt ++ ascii ">")
parameter_string root Owned p = ok p
parameter_string root Client p = refused 7
parameter_string root Server p = refused 7
parameter_string root ServerDispatch p = refused 7
parameter_string root Pipeline p = ok (ascii "<" ++ p ++ ascii " as " ++ root ++ ascii "::traits::Pipelined>::Pipeline")
parameter_string root GetType p = refused 7

unfoldable mutual
  pub type_string : Ty → Sheet → Leaf → Out Str
  type_string (plain k) sheet leaf = ok (plain_string sheet.root leaf k)
  type_string (list t) sheet leaf = list_string sheet.root leaf (kind t) (type_string t sheet (element_leaf (kind t)))
  type_string (enum id ss) sheet leaf = get_qualified_module sheet id
  type_string (struct id ss) sheet leaf = get_qualified_module sheet id then do_branding sheet id (scopes_of ss sheet) leaf
  type_string (interface id ss) sheet leaf = get_qualified_module sheet id then do_branding sheet id (scopes_of ss sheet) leaf
  type_string any_pointer sheet leaf = ok (sheet.root ++ ascii "::any_pointer::" ++ display leaf)
  type_string (parameter id k) sheet leaf =
      node_of sheet.nodes id then λ n. parameter_name n.params k then λ p. parameter_string sheet.root leaf p

  -- the brand's scopes with their ids
  pub scopes_of : Scopes → Sheet → List (ℕ × Scope)
  scopes_of end sheet = []
  scopes_of (inherit id ss) sheet = (id, inherited) ∷ scopes_of ss sheet
  scopes_of (bind id bs ss) sheet = (id, binds (bindings_of bs sheet)) ∷ scopes_of ss sheet

  -- the text or the refusal of each binding
  pub bindings_of : Binds → Sheet → List (Out Str)
  bindings_of stop sheet = []
  bindings_of (unbound bs) sheet = ok (any_owned sheet.root) ∷ bindings_of bs sheet
  bindings_of (bound t bs) sheet = type_string t sheet Owned ∷ bindings_of bs sheet
