-- Laws of the chain of a node's parents: what a turn of its loop makes of what was known, and that a chain that meets a node
-- again is refused with 4: where the arguments of its nodes are given, `accumulate` goes round until its 17th node. By induction
-- on the nodes that are left to it. Assumes nothing.
use mathlib.Core.Path.{◌≡◌, refl, sym, ap, ◌∙◌, subst}
use mathlib.Core.Bool.{Bool, true, false}
use mathlib.Core.List.{List, [], ◌∷◌, ◌++◌}
use Rattle.std.specs.Prelude.{Option, None, Some, Ok, Err}
use Rattle.std.specs.Option.{ok_or}
use Rattle.terms.specs.declared.refusals.Refusal.{Refusal}
use Rattle.terms.specs.declared.refusals.Refusal.TheVariants.{TooDeep, NoNode}
use Prim.Native.Nat.{ℕ, zero, suc, ◌+◌, ◌-◌, ◌<◌, ◌≤◌}
use native.Mathlib.Omega.{arith}
use native.Mathlib.Numerals.{add-one}
use borrow.Author.Tests.{eq-eqb, ne_eqb, lt-ltb, le-ltb, eqb-true, ltb-true, ltb-false}
use lib.Dec.{eqb, ltb}
use native.Mathlib.Decide.{ℕ_discrete}
use lib.ListN.{length, drop, take, set, get_or, drop_of_length-le, length-set}
use lib.Seq.{drop-cons, get_or-take, take-suc-set, length-take-le, get_or-set_same, get_or-set_other}
use Rattle.text.specs.Bytes.{Str, cond, either}
use Rattle.row.specs.Rows.{rows}
use Rattle.tree.specs.Tree.{Node, Sheet}
use Rattle.tree.specs.Read.{among}
use Rattle.codegen_types.specs.Out.{Out, ok, refused, ◌then◌}
use Rattle.codegen_types.specs.TypeString.{Scope, node_of, scope_of, arguments_of, accumulate}
use Rattle.codegen_types.proofs.Laws.{accumulate-none, accumulate-more}
use Rattle.tree.proofs.OtherLines.{never}
use Rattle.nodes.specs.Index.{Indexed, EntryIs, lookup, names_of, sheet_of}
use Rattle.nodes.specs.declared.Entry.{Entry}
use Rattle.codegen_types.proofs.NodeLaws.{node_missing, node-there}
use Rattle.types.specs.Find.{before, end_of, step_of, or_five, ParamsAt, ChainOf}
use Rattle.types.specs.declared.Links.{Links}

-- ---- the chain

-- one more node at the outer end
before_snoc : (root s : Str) (scopes : List (ℕ × Scope)) (is ps : List ℕ) (i p : ℕ) (o : Out (List (List Str)))
    → length is ≡ length ps
    → before root s scopes (is ++ (i ∷ [])) (ps ++ (p ∷ [])) o
    ≡ before root s scopes is ps (arguments_of root (names_of (rows (drop p s))) (scope_of i scopes) then λ a. o then λ outer. ok
    (a ∷ outer))
unfolding before
before_snoc root s scopes [] [] i p o h = refl
before_snoc root s scopes [] (q ∷ ps) i p o h = let z : ⊥ = omega arith in absurd z
before_snoc root s scopes (j ∷ is) [] i p o h = let z : ⊥ = omega arith in absurd z
before_snoc root s scopes (j ∷ is) (q ∷ ps) i p o h =
    rw (before_snoc root s scopes is ps i p o (omega arith))

-- a node with its P rows at p, whose parent is `up`, and not 0
pub record Link (s : Str) (ns : List Node) (id p up : ℕ) : Type 0 where
  pub node : Node
  pub here : node_of ns id ≡ ok node
  pub names : names_of (rows (drop p s)) ≡ node.params
  pub parent : node.parent ≡ up
  pub more : up ≡ 0 → ⊥

abbrev pub head_or : ℕ → List ℕ → ℕ
head_or c [] = c
head_or c (i ∷ is) = i

-- each node's parent is the next, and that of the last is c
abbrev pub Path : Str → List Node → List ℕ → List ℕ → ℕ → Type 0
Path s ns [] ps c = Unit {0}
Path s ns (i ∷ is) [] c = ⊥
Path s ns (i ∷ is) (p ∷ ps) c = Link s ns i p (head_or c is) × Path s ns is ps c

path_snoc : (s : Str) (ns : List Node) (is ps : List ℕ) (c p d : ℕ) → length is ≡ length ps → Path s ns is ps c
    → Link s ns c p d → Path s ns (is ++ (c ∷ [])) (ps ++ (p ∷ [])) d
path_snoc s ns [] [] c p d h w l = (l, tt)
path_snoc s ns [] (q ∷ ps) c p d h w l = let z : ⊥ = omega arith in absurd z
path_snoc s ns (i ∷ is) [] c p d h w l = absurd w
path_snoc s ns (i ∷ is) (q ∷ ps) c p d h w l = (rw (same is) w.0, path_snoc s ns is ps c p d (omega arith) w.1 l)
  where
    same : (is : List ℕ) → head_or d (is ++ (c ∷ [])) ≡ head_or c is
    same [] = refl
    same (j ∷ is) = refl

-- ---- a chain that meets a node again: it goes round until its 17th node

abbrev Gives : {A : Type 0} → Out A → Type 0
Gives (ok a) = Unit {0}
Gives (refused k) = ⊥

module _ (root s : Str) (scopes : List (ℕ × Scope)) where
  -- the arguments of all these nodes are given
  abbrev AllGive : List ℕ → List ℕ → Type 0
  AllGive [] ps = Unit {0}
  AllGive (i ∷ is) [] = Unit {0}
  AllGive (i ∷ is) (p ∷ ps) =
      Gives (arguments_of root (names_of (rows (drop p s))) (scope_of i scopes)) × AllGive is ps

  -- what is further out counts only where they are
  before_same : (is ps : List ℕ) (o o' : Out (List (List Str))) → (AllGive is ps → o ≡ o')
      → before root s scopes is ps o ≡ before root s scopes is ps o'
  unfolding before
  before_same [] ps o o' f = f tt
  before_same (i ∷ is) [] o o' f = f tt
  before_same (i ∷ is) (p ∷ ps) o o' f =
      go (arguments_of root (names_of (rows (drop p s))) (scope_of i scopes)) (before_same is ps o o') f
    where
      go : (a : Out (List Str)) → ((AllGive is ps → o ≡ o') → before root s scopes is ps o ≡ before root s scopes is ps o')
          → (Gives a × AllGive is ps → o ≡ o')
          → ◌≡◌ {A = Out (List (List Str))} (a then λ x. before root s scopes is ps o then λ outer. ok (x ∷ outer))
          (a then λ x. before root s scopes is ps o' then λ outer. ok (x ∷ outer))
      go (ok x) ih f = ap (λ (b : Out (List (List Str))). b then λ outer. ok (x ∷ outer)) (ih (λ g. f (tt, g)))
      go (refused k) ih f = refl

  module _ (ns : List Node) where
    -- a node whose arguments are given, with a parent that M holds of
    record Turn (M : ℕ → Type 0) (id : ℕ) : Type 0 where
      node : Node
      here : node_of ns id ≡ ok node
      given : Gives (arguments_of root node.params (scope_of id scopes))
      more : node.parent ≡ 0 → ⊥
      again : M node.parent

    -- each node of a path has its turn, where M holds of all of them and of the last one's parent
    turn-of : (is ps : List ℕ) (c : ℕ) → Path s ns is ps c → AllGive is ps → (M : ℕ → Type 0)
        → ((y : ℕ) → among y is ≡ true → M y) → M c → (x : ℕ) → among x is ≡ true → Turn M x
    unfolding among
    turn-of [] ps c w g M f m x h = let z : ◌≡◌ {A = ℕ} 0 1 = cc in never z
    turn-of (i ∷ is) [] c w g M f m x h = absurd w
    turn-of (i ∷ is) (p ∷ ps) c w g M f m x h = go (eqb i x) refl (turn-of is ps c w.1 g.1 M) h
      where
        either-right : (t u : Bool) → u ≡ true → either t u ≡ true
        either-right true u e = refl
        either-right false u e = e

        up : (is : List ℕ) → ((y : ℕ) → among y (i ∷ is) ≡ true → M y) → M (head_or c is)
        up [] f = m
        up (j ∷ is) f = f j (either-right (eqb i j) (either (eqb j j) (among j is)) (rw (eq-eqb j j refl) refl))

        go : (t : Bool) → eqb i x ≡ t
            → (((y : ℕ) → among y is ≡ true → M y) → M c → (x : ℕ) → among x is ≡ true → Turn M x)
            → either t (among x is) ≡ true → Turn M x
        go true e ih h =
            let l = w.0 in
            subst (Turn M) (eqb-true i x e) (record {
              node = l.node;
              here = l.here;
              given = rw (← l.names) g.0;
              more = λ z. l.more (sym l.parent ∙ z);
              again = rw l.parent (up is f);
            })
        go false e ih h = ih (λ y u. f y (either-right (eqb i y) (among y is) u)) m x h

    round : (M : ℕ → Type 0) → ((x : ℕ) → M x → Turn M x) → (left x : ℕ) → M x
        → accumulate (sheet_of root ns) scopes left x ≡ refused 4
    unfolding accumulate
    round M f zero x m = refl
    round M f (suc left) x m =
        let t = f x m in
        rw t.here (go t.node (arguments_of root t.node.params (scope_of x scopes)) t.given
        (round M f left t.node.parent t.again) (ne_eqb t.node.parent 0 t.more))
      where
        go : (n : Node) (a : Out (List Str)) → Gives a → accumulate (sheet_of root ns) scopes left n.parent ≡ refused 4
            → eqb n.parent 0 ≡ false → ◌≡◌ {A = Out (List (List Str))}
            (a then λ arguments. cond (eqb n.parent 0) (ok (arguments ∷ []))
            (accumulate (sheet_of root ns) scopes left n.parent then λ outer. ok (arguments ∷ outer))) (refused 4)
        go n (ok a) g e z = rw (z, e) refl
        go n (refused k) g e z = absurd g

    again-4 : (is ps : List ℕ) (c left : ℕ) → Path s ns is ps c → among c is ≡ true
        → before root s scopes is ps (accumulate (sheet_of root ns) scopes left c) ≡ before root s scopes is ps (refused 4)
    again-4 is ps c left w h =
        before_same is ps (accumulate (sheet_of root ns) scopes left c) (refused 4)
        (λ g. round (λ y. among y is ≡ true) (turn-of is ps c w g (λ y. among y is ≡ true) (λ y e. e) h) left c h)

-- ---- the way along the chain

-- one step by what its tests and its search show
module _ (index ids : List ℕ) (id : ℕ) where
  pub step-full : 16 ≤ length ids → Err TooDeep ≡ step_of index ids id
  step-full h = rw (le-ltb (length ids) 16 h) refl

  module _ (few : length ids < 16) (seen : Bool) (e : seen ≡ among id ids) where
    pub step-seen : seen ≡ true → Err TooDeep ≡ step_of index ids id
    step-seen z = rw (lt-ltb (length ids) 16 few, ← e, z) refl

    pub step-to : seen ≡ false → (f : Option Entry) → f ≡ lookup index id → ok_or f NoNode ≡ step_of index ids id
    step-to z f g = rw (lt-ltb (length ids) 16 few, ← e, z, ← g) (go f)
      where
        go : (f : Option Entry) → ok_or f NoNode ≡ or_five f
        go (Some n) = refl
        go None = refl

-- what a step that finds a node shows: there were not yet 16, it is none of those before, and it is the index's
record Stepped (n : Entry) (few seen : Bool) (f : Option Entry) : Type 0 where
  fewer : few ≡ true
  unseen : seen ≡ false
  found : f ≡ Some n

step-node : (n : Entry) (few seen : Bool) (f : Option Entry)
    → Ok n ≡ cond few (cond seen (Err TooDeep) (or_five f)) (Err TooDeep) → Stepped n few seen f
step-node n false seen f e = never cc
step-node n true true f e = never cc
step-node n true false None e = never cc
step-node n true false (Some m) e = record { fewer = refl; unseen = refl; found = cc }

new-id : (id : ℕ) (ids : List ℕ) → among id ids ≡ false → (i : ℕ) → i < length ids → get_or ids i 0 ≡ id → ⊥
unfolding among
new-id id [] h i x e = let z : ⊥ = omega arith in absurd z
new-id id (j ∷ ids) h zero x e = let y = eq-eqb j id e in let z : ◌≡◌ {A = ℕ} 0 1 = cc in never z
new-id id (j ∷ ids) h (suc i) x e = go (eqb j id) h (new-id id ids)
  where
    go : (t : Bool) → either t (among id ids) ≡ false
        → (among id ids ≡ false → (i : ℕ) → i < length ids → get_or ids i 0 ≡ id → ⊥) → ⊥
    go true h ih = let z : ◌≡◌ {A = ℕ} 0 1 = cc in never z
    go false h ih = ih h i (omega arith) e

-- k nodes are noted, each the parent of the one before, and what `accumulate` does from the current node on is left
pub record Climbed (index : List ℕ) (id : ℕ) (ids params counts ends : List ℕ) (k current : ℕ) : Type 0 where
  pub few : k ≤ 16
  pub ids_size : length ids ≡ 16
  pub params-size : length params ≡ 16
  pub counts_size : length counts ≡ 16
  pub ends_size : length ends ≡ 16
  pub once : (i j : ℕ) → i < j → j < k → get_or ids i 0 ≡ get_or ids j 0 → ⊥
  pub each : (s : Str) (ns : List Node) → Indexed s ns index → (j : ℕ) → j < k
      → ParamsAt s (get_or params j 0) (get_or counts j 0) (get_or ends j 0)
  pub path : (s : Str) (ns : List Node) → Indexed s ns index → Path s ns (take k ids) (take k params) current
  pub all : (s root : Str) (ns : List Node) → Indexed s ns index → (scopes : List (ℕ × Scope))
      → accumulate (sheet_of root ns) scopes 16 id
      ≡ before root s scopes (take k ids) (take k params) (accumulate (sheet_of root ns) scopes (16 - k) current)

abbrev pub chain_of : List ℕ → List ℕ → List ℕ → List ℕ → ℕ → Option Refusal → Links
chain_of ids params counts ends k r =
    record { ids = ids; params = params; counts = counts; ends = ends; count = k; refusal = r }

module _ (index : List ℕ) (id : ℕ) (ids params counts ends : List ℕ) where
  pub climb-start : length ids ≡ 16 → length params ≡ 16 → length counts ≡ 16 → length ends ≡ 16
      → Climbed index id ids params counts ends 0 id
  unfolding before
  climb-start h g f w = record {
    few = omega arith;
    ids_size = h;
    params-size = g;
    counts_size = f;
    ends_size = w;
    once = λ i j x y e. let z : ⊥ = omega arith in absurd z;
    each = λ s ns x j y. let z : ⊥ = omega arith in absurd z;
    path = λ s ns x. tt;
    all = λ s root ns x scopes. refl;
  }

  module _ (k current : ℕ) (c : Climbed index id ids params counts ends k current) where
    ended : (r : Option Refusal) → ((s root : Str) (ns : List Node) → Indexed s ns index → (scopes : List (ℕ × Scope))
        → before root s scopes (take k ids) (take k params) (accumulate (sheet_of root ns) scopes (16 - k) current)
        ≡ before root s scopes (take k ids) (take k params) (end_of r))
        → (s : Str) → ChainOf s index id (chain_of ids params counts ends k r)
    ended r law s = record {
      few = c.few;
      ids_size = c.ids_size;
      params-size = c.params-size;
      counts_size = c.counts_size;
      ends_size = c.ends_size;
      once = c.once;
      each = c.each s;
      all = λ root ns x scopes. c.all s root ns x scopes ∙ law s root ns x scopes;
    }

    -- the current node is refused: there are 16 already, it is among those before, or it is not there
    pub climb-end : (r : Refusal) → Err r ≡ step_of index (take k ids) current
        → (s : Str) → ChainOf s index id (chain_of ids params counts ends k (Some r))
    climb-end r e = go (ltb (length (take k ids)) 16) (among current (take k ids)) (lookup index current) refl refl refl e
      where
        full : length (take k ids) ≡ k
        full = length-take-le k ids (omega (arith, c.few, c.ids_size))

        go : (few seen : Bool) (f : Option Entry) → ltb (length (take k ids)) 16 ≡ few → among current (take k ids) ≡ seen
            → f ≡ lookup index current → Err r ≡ cond few (cond seen (Err TooDeep) (or_five f)) (Err TooDeep)
            → (s : Str) → ChainOf s index id (chain_of ids params counts ends k (Some r))
        go false seen f y z w e =
            let h = ltb-false (length (take k ids)) 16 y in
            let q : r ≡ TooDeep = cc in
            rw q (ended (Some TooDeep) (λ s root ns x scopes.
            rw (accumulate-none (sheet_of root ns) scopes (16 - k) current (omega (arith, full))) refl))
        go true true f y z w e =
            let q : r ≡ TooDeep = cc in
            rw q (ended (Some TooDeep) (λ s root ns x scopes.
            again-4 root s scopes ns (take k ids) (take k params) current (16 - k) (c.path s ns x) z))
        go true false (Some n) y z w e = never cc
        go true false None y z w e =
            let h = ltb-true (length (take k ids)) 16 y in
            let q : r ≡ NoNode = cc in
            rw q (ended (Some NoNode) (λ s root ns x scopes.
            rw (
              accumulate-more (sheet_of root ns) scopes (16 - k) current (λ v. omega (arith, full)),
              node_missing s ns index current None w x refl,
            ) refl))

    stepped : (n : Entry) → Ok n ≡ step_of index (take k ids) current
        → Stepped n (ltb (length (take k ids)) 16) (among current (take k ids)) (lookup index current)
    stepped n e = step-node n (ltb (length (take k ids)) 16) (among current (take k ids)) (lookup index current) e

    pub climb-few : (n : Entry) → Ok n ≡ step_of index (take k ids) current → k < 16
    climb-few n e = omega (
      arith,
      ltb-true (length (take k ids)) 16 (stepped n e).fewer,
      length-take-le k ids (omega (arith, c.few, c.ids_size)),
    )

    module _ (h : k < 16) (n : Entry) (e : Ok n ≡ step_of index (take k ids) current) where
      abbrev ids' : List ℕ
      ids' = set ids k current

      abbrev params' : List ℕ
      params' = set params k n.params

      abbrev counts' : List ℕ
      counts' = set counts k n.count

      abbrev ends' : List ℕ
      ends' = set ends k n.fields

      -- what is known of the node
      known : (s : Str) (ns : List Node) → Indexed s ns index → (Q : Out Node → Type 0)
          → ((m : Node) → node_of ns current ≡ ok m → EntryIs s index n m → Q (ok m)) → Q (node_of ns current)
      known s ns x = node-there s ns index current (lookup index current) refl x n
          (stepped n e).found

      ids_more : take (k + 1) ids' ≡ take k ids ++ (current ∷ [])
      ids_more = rw add-one (take-suc-set ids k current (omega (arith, c.ids_size)))

      params_more : take (k + 1) params' ≡ take k params ++ (n.params ∷ [])
      params_more = rw add-one (take-suc-set params k n.params (omega (arith, c.params-size)))

      as_long : length (take k ids) ≡ length (take k params)
      as_long = length-take-le k ids (omega (arith, c.ids_size)) ∙ sym (length-take-le k params
          (omega (arith, c.params-size)))

      -- with the node noted too
      turn : (o : Sheet → List (ℕ × Scope) → Out (List (List Str)))
          → ((sheet : Sheet) (scopes : List (ℕ × Scope)) (arguments : List Str) → ◌≡◌ {A = Out (List (List Str))}
          (cond (eqb n.parent 0) (ok (arguments ∷ []))
          (accumulate sheet scopes (16 - k - 1) n.parent then λ outer. ok (arguments ∷ outer)))
          (o sheet scopes then λ outer. ok (arguments ∷ outer)))
          → (s root : Str) (ns : List Node) → Indexed s ns index → (scopes : List (ℕ × Scope))
          → accumulate (sheet_of root ns) scopes 16 id
          ≡ before root s scopes (take (k + 1) ids') (take (k + 1) params') (o (sheet_of root ns) scopes)
      turn o law s root ns x scopes =
          c.all s root ns x scopes
          ∙ rw (
            ids_more,
            params_more,
            before_snoc root s scopes (take k ids) (take k params) current n.params (o (sheet_of root ns) scopes) as_long,
          )
          (ap (before root s scopes (take k ids) (take k params)) own)
        where
          args : (a : Out (List Str))
              → ◌≡◌ {A = Out (List (List Str))} (a then λ arguments. cond (eqb n.parent 0) (ok (arguments ∷ []))
              (accumulate (sheet_of root ns) scopes (16 - k - 1) n.parent then λ outer. ok (arguments ∷ outer)))
              (a then λ arguments. o (sheet_of root ns) scopes then λ outer. ok (arguments ∷ outer))
          args (ok a) = law (sheet_of root ns) scopes a
          args (refused j) = refl

          own : accumulate (sheet_of root ns) scopes (16 - k) current
              ≡ (arguments_of root (names_of (rows (drop n.params s))) (scope_of current scopes) then λ a.
              o (sheet_of root ns) scopes then λ outer. ok (a ∷ outer))
          own =
              accumulate-more (sheet_of root ns) scopes (16 - k) current (λ y. omega arith)
              ∙ known s ns x
              (λ (m : Out Node). ◌≡◌ {A = Out (List (List Str))} (m then λ y. arguments_of root y.params
              (scope_of current scopes) then λ arguments. cond (eqb y.parent 0) (ok (arguments ∷ []))
              (accumulate (sheet_of root ns) scopes (16 - k - 1) y.parent then λ outer. ok (arguments ∷ outer)))
              (arguments_of root (names_of (rows (drop n.params s))) (scope_of current scopes) then λ a.
              o (sheet_of root ns) scopes then λ outer. ok (a ∷ outer)))
              (λ y u w. rw (← w.parent, w.params) (args (arguments_of root y.params (scope_of current scopes))))

      once_more : (i j : ℕ) → i < j → j < k + 1 → get_or ids' i 0 ≡ get_or ids' j 0 → ⊥
      once_more i j x y z = go (ℕ_discrete j k)
        where
          old : get_or ids i 0 ≡ get_or ids' j 0
          old = sym (get_or-set_other ids k i current 0 (λ w. omega arith)) ∙ z

          go : Dec (j ≡ k) → ⊥
          go (yes w) =
              new-id current (take k ids) (stepped n e).unseen i
              (rw (length-take-le k ids (omega (arith, c.ids_size))) (omega arith))
              (get_or-take k ids i 0 (omega arith) ∙ old
              ∙ rw (w, get_or-set_same ids k current 0 (omega (arith, c.ids_size))) refl)
          go (no w) = c.once i j x (omega arith) (old ∙ get_or-set_other ids k j current 0 w)

      each_more : (s : Str) (ns : List Node) → Indexed s ns index → (j : ℕ) → j < k + 1
          → ParamsAt s (get_or params' j 0) (get_or counts' j 0) (get_or ends' j 0)
      each_more s ns x j y = go (ℕ_discrete j k)
        where
          go : Dec (j ≡ k) → ParamsAt s (get_or params' j 0) (get_or counts' j 0) (get_or ends' j 0)
          go (yes z) =
              rw (
                z,
                get_or-set_same counts k n.count 0 (omega (arith, c.counts_size)),
                get_or-set_same params k n.params 0 (omega (arith, c.params-size)),
                get_or-set_same ends k n.fields 0 (omega (arith, c.ends_size)),
              )
              (known s ns x (λ m. ParamsAt s n.params n.count n.fields)
              (λ m u w. record { names = rw w.params w.count; after = w.end }))
          go (no z) =
              rw (
                get_or-set_other counts k j n.count 0 z,
                get_or-set_other params k j n.params 0 z,
                get_or-set_other ends k j n.fields 0 z,
              )
              (c.each s ns x j (omega arith))

      pub climb-top : n.parent ≡ 0 → (r : Option Refusal) → r ≡ None
          → (s : Str) → ChainOf s index id (chain_of ids' params' counts' ends' (k + 1) r)
      climb-top z r none s = rw none record {
        few = omega arith;
        ids_size = length-set ids k current ∙ c.ids_size;
        params-size = length-set params k n.params ∙ c.params-size;
        counts_size = length-set counts k n.count ∙ c.counts_size;
        ends_size = length-set ends k n.fields ∙ c.ends_size;
        once = once_more;
        each = each_more s;
        all = turn (λ sheet scopes. ok []) (λ sheet scopes a. rw (eq-eqb n.parent 0 z) refl) s;
      }

      pub climb-next : (n.parent ≡ 0 → ⊥) → Climbed index id ids' params' counts' ends' (k + 1) n.parent
      climb-next z = record {
        few = omega arith;
        ids_size = length-set ids k current ∙ c.ids_size;
        params-size = length-set params k n.params ∙ c.params-size;
        counts_size = length-set counts k n.count ∙ c.counts_size;
        ends_size = length-set ends k n.fields ∙ c.ends_size;
        once = once_more;
        each = each_more;
        path = λ s ns x. rw (ids_more, params_more) (path_snoc s ns (take k ids) (take k params) current n.params n.parent
            as_long (c.path s ns x) (link s ns x));
        all = turn (λ sheet scopes. accumulate sheet scopes (16 - (k + 1)) n.parent)
            (λ sheet scopes a. let y : 16 - k - 1 ≡ 16 - (k + 1) = omega arith in rw (ne_eqb n.parent 0 z, y) refl);
      }
        where
          link : (s : Str) (ns : List Node) → Indexed s ns index → Link s ns current n.params n.parent
          link s ns x = known s ns x (λ m. Link s ns current n.params n.parent)
              (λ m u w. record { node = m; here = u; names = w.params; parent = sym w.parent; more = z })

-- ---- the chain, for those who walk along it

-- a node's arguments, then those of the nodes further out
module _ (root s : Str) (scopes : List (ℕ × Scope)) (ids params : List ℕ) (count : ℕ) where
  pub before-step : (k : ℕ) (o : Out (List (List Str))) → k < count → count ≤ length ids → count ≤ length params
      → before root s scopes (drop k (take count ids)) (drop k (take count params)) o
      ≡ (arguments_of root (names_of (rows (drop (get_or params k 0) s))) (scope_of (get_or ids k 0) scopes) then λ a.
      before root s scopes (drop (k + 1) (take count ids)) (drop (k + 1) (take count params)) o then λ outer. ok (a ∷ outer))
  unfolding before
  before-step k o h f g =
      rw (
        drop-cons (take count ids) k 0 (rw (length-take-le count ids f) h),
        drop-cons (take count params) k 0
            (rw (length-take-le count params g) h),
        get_or-take count ids k 0 h,
        get_or-take count params k 0 h,
        add-one,
      )

  pub before_out : (k : ℕ) (o : Out (List (List Str))) → count ≤ k → count ≤ length ids
      → before root s scopes (drop k (take count ids)) (drop k (take count params)) o ≡ o
  unfolding before
  before_out k o h f = rw (drop_of_length-le (take count ids) {i = k} (rw (length-take-le count ids f) h))
