-- The tree of a sheet: what its lines say, in document 01's words and those of schema.capnp. Every later definition speaks
-- of this tree. Assumes nothing.
use Rattle.std.specs.Prelude.{List, ℕ}
use Rattle.text.specs.Bytes.{Str}

mutual
  -- a type: a T line and the lines that belong to it
  pub data Ty : Type 0 where
    -- kinds 0 to 13: Void, Bool, Int8 to Int64, UInt8 to UInt64, Float32, Float64, Text, Data
    plain : ℕ → Ty
    -- kind 14 and the element's type
    list : Ty → Ty
    -- kinds 15, 16 and 17: the node's id and the scopes of the brand
    enum : ℕ → Scopes → Ty
    struct : ℕ → Scopes → Ty
    interface : ℕ → Scopes → Ty
    -- kind 18
    any_pointer : Ty
    -- kind 18 with a 1: the scope's id and the parameter's index
    parameter : ℕ → ℕ → Ty

  -- the S lines of a brand, each with its scope id
  pub data Scopes : Type 0 where
    end : Scopes
    inherit : ℕ → Scopes → Scopes
    bind : ℕ → Binds → Scopes → Scopes

  -- the bindings under an S line: U lines and types
  pub data Binds : Type 0 where
    stop : Binds
    unbound : Binds → Binds
    bound : Ty → Binds → Binds

-- the number of a type's kind
abbrev pub kind : Ty → ℕ
kind (plain k) = k
kind (list t) = 14
kind (enum i ss) = 15
kind (struct i ss) = 16
kind (interface i ss) = 17
kind any_pointer = 18
kind (parameter i k) = 18

-- a V line
pub record Value : Type 0 where
  pub kind : ℕ
  pub bits : ℕ

-- an F line without its name and discriminant, its type, its default and the default's words (W lines)
pub record Slot : Type 0 where
  pub offset : ℕ
  pub explicit : ℕ
  pub option : ℕ
  pub ty : Ty
  pub default : Value
  pub words : List ℕ

-- what a field is: a slot (F), or a group (G) with the id of the group's node
pub data Arm : Type 0 where
  slot : Slot → Arm
  group : ℕ → Arm

-- an F or G line and what belongs to it; discriminant 65535 is none
pub record Field : Type 0 where
  pub name : Str
  pub discriminant : ℕ
  pub arm : Arm

-- an N line (the_mod: its module), the names of its P lines, and its fields in order
pub record Node : Type 0 where
  pub id : ℕ
  pub parent : ℕ
  pub scope : ℕ
  pub is_struct : ℕ
  pub generic : ℕ
  pub tag_count : ℕ
  pub tag_offset : ℕ
  pub the_mod : Str
  pub params : List Str
  pub fields : List Field

-- the text of the R line and the nodes in order
pub record Sheet : Type 0 where
  pub root : Str
  pub nodes : List Node
