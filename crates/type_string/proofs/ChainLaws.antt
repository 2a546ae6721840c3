-- Laws of the walk over a brand's chain in either direction: outermost node first where the arguments are written (`Writing`),
-- innermost first, in the Rust's order, where they are only counted (`Counting`). Counted, arguments may stand in any order;
-- whatever the nodes from here on make of what is counted so far, all of them make of the start. `Along` is what is known at
-- each turn. Assumes nothing.
use mathlib.Core.Path.{◌≡◌, refl, sym, ap, ◌∙◌}
use mathlib.Core.Bool.{Bool, true, false}
use mathlib.Core.List.{List, [], ◌∷◌}
use Rattle.std.specs.Prelude.{Option, None, Some, Result, Ok, Err}
use Prim.Native.Nat.{ℕ, ◌+◌, ◌-◌, ◌^◌, ◌<◌, ◌≤◌, min}
use native.Mathlib.Omega.{arith}
use lib.ListN.{length, drop, take, get_or}
use Rattle.text.specs.Bytes.{Str, cond}
use Rattle.text.specs.Text.{WroteSome}
use Rattle.text.proofs.Laws.{no_text, ◌⨟◌}
use Rattle.row.specs.Rows.{rows}
use Rattle.tree.specs.Tree.{Scopes, Node}
use Rattle.tree.specs.Reader.{On}
use Rattle.tree.proofs.OtherLines.{never}
use Rattle.nodes.specs.Index.{sheet_of, Indexed}
use Rattle.nodes.specs.declared.Source.{Source}
use Rattle.terms.specs.declared.refusals.Refusal.{Refusal}
use Rattle.codegen_types.specs.Out.{Out, ok, refused, ◌then◌}
use Rattle.codegen_types.specs.TypeString.{scope_of, scopes_of, outermost_first}
use Rattle.codegen_types.specs.Written.{Kept}
use Rattle.codegen_types.proofs.WrittenLaws.{kept-all, kept-text, kept-further, further}
use Rattle.types.specs.Find.{ScopeAt, before, end_of, ChainOf, LastScopes}
use Rattle.types.specs.declared.Links.{Links}
use Rattle.types.proofs.ChainLaws.{before-step, before_out}
use Rattle.types.proofs.ScopeLaws.{placed}
use Rattle.types.proofs.Laws.{on_one, on-two, on-all}
use Rattle.type_parts.specs.Parts.{Lists, WithinArguments}
use Rattle.type_parts.specs.declared.Arguments.{Arguments}
use Rattle.type_parts.proofs.Laws.{listed-none, listed-both, all_listed, not_listed, listed_of}
use Rattle.type_parts.proofs.MeasuredLaws.{none_written, listed_swap}
use Rattle.type_string.specs.Told.{outward, scopes_at, ChainTold, OwnTold}
use Rattle.type_string.specs.declared.Brand.{Brand}
use Rattle.type_string.specs.declared.Own.{Own}
use Rattle.type_string.proofs.Laws.{clash}

-- the node of a chain with a number, from 0, and the place of its scope
abbrev pub field_own : Links → List ℕ → ℕ → Own
field_own c places k = record {
  params = get_or c.params k 0;
  count = get_or c.counts k 0;
  end = get_or c.ends k 0;
  scope = get_or places k 0;
}

-- what a walk answers: the refusal that was met, or its arguments
abbrev pub settled : Option Refusal → Arguments → Result Arguments Refusal
settled None p = Ok p
settled (Some e) p = Err e

-- ---- the buffer

-- what is known of the buffer: nothing before the start changed, and as long as no refusal was met some text was written
pub record Going (l : List ℕ) (p : Arguments) (l' : List ℕ) (q : Arguments) (met : Option Refusal) : Type 0 where
  pub kept : Kept l p.text l'
  pub on : min p.text.at (2 ^ 64 - 1) ≤ min q.text.at (2 ^ 64 - 1)
  pub some : met ≡ None → WroteSome l p.text l' q.text

pub going-start : {l : List ℕ} {p : Arguments} {met : Option Refusal} → Going l p l p met
going-start = record { kept = kept-all; on = omega arith; some = λ e. no_text }

module _ {l : List ℕ} {p : Arguments} {l₁ : List ℕ} {q : Arguments} {met : Option Refusal} (h : Going l p l₁ q met) where
  pub going-on : {l₂ : List ℕ} {r : Arguments} → WroteSome l₁ q.text l₂ r.text → Going l p l₂ r met
  going-on w = record {
    kept = kept-further h.kept h.on (kept-text w);
    on = let z = further w in let y = h.on in omega arith;
    some = λ e. h.some e ⨟ w;
  }

  pub going-refused : {l₂ : List ℕ} {e : Refusal} → Kept l₁ q.text l₂ → Going l p l₂ q (Some e)
  going-refused k = record { kept = kept-further h.kept h.on k; on = h.on; some = λ e. never cc }

  pub going-end : WithinArguments l p l₁ (settled met q)
  going-end = go met refl
    where
      go : (m : Option Refusal) → met ≡ m → WithinArguments l p l₁ (settled m q)
      go None e = h.some e
      go (Some r) e = h.kept

-- ---- the nodes of a chain

module _ (x : Source) (left : ℕ) (b : Brand) (c : Links) where
  -- what the nodes of the chain from the k-th on give, and then its end
  abbrev pub from : List Node → ℕ → Scopes → Out (List (List Str))
  from ns k ss = before x.root.now x.bytes.now (scopes_of ss (sheet_of x.root.now ns)) (drop k (take c.count c.ids))
      (drop k (take c.count c.params)) (end_of c.refusal)

  -- these nodes' arguments, written outermost first
  abbrev pub Outer : List Node → ℕ → List ℕ → Arguments → List ℕ → Result Arguments Refusal → Type 0
  Outer ns k l p l' r = On (scopes_at x left b) (λ ss. Lists (outward (from ns k ss)) l p l' r)

  module _ (places : List ℕ) (v : ChainOf x.bytes.now x.index.now b.id c)
      (there : LastScopes x.bytes.now b.scopes b.count (take c.count c.ids) places) where
    -- past the last node only the chain's end is left
    outer-end : (ns : List Node) (k : ℕ) (l : List ℕ) (p : Arguments) → c.count ≤ k → Outer ns k l p l (settled c.refusal p)
    unfolding outermost_first
    outer-end ns k l p h =
        on-all {P = λ ss. Lists (outward (from ns k ss)) l p l (settled c.refusal p)}
        (λ ss. rw (before_out x.root.now x.bytes.now (scopes_of ss (sheet_of x.root.now ns)) c.ids c.params c.count k
        (end_of c.refusal) h (omega (arith, v.few, v.ids_size))) (go c.refusal)) (scopes_at x left b)
      where
        go : (r : Option Refusal) → Lists (outward (end_of r)) l p l (settled r p)
        go None = all_listed (listed-none l p)
        go (Some e) = not_listed refl

    -- all of its nodes are what `accumulate` visits
    outer-all : (l : List ℕ) (p : Arguments) (l' : List ℕ) (r : Result Arguments Refusal)
        → ((ns : List Node) → Indexed x.bytes.now ns x.index.now → Outer ns 0 l p l' r) → ChainTold x b left l p l' r
    outer-all l p l' r h = λ ns i. on_one (λ ss. Lists (outward (from ns 0 ss)) l p l' r) _ (scopes_at x left b)
        (λ ss y. rw (v.all x.root.now ns i (scopes_of ss (sheet_of x.root.now ns))) y) (h ns i)

    -- one node's own arguments, and those of the nodes further out
    module _ (k : ℕ) (h : k < c.count) (l₁ : List ℕ) (q : Arguments) (l₂ : List ℕ) (r : Result Arguments Refusal)
        (own : OwnTold x (field_own c places k) left l₁ q l₂ r) (ns : List Node) (i : Indexed x.bytes.now ns x.index.now) where
      one-node : (P Q : Out (List (List Str)) → Type 0)
          → ((o : Out (List Str)) (a : Out (List (List Str))) → Lists o l₁ q l₂ r → P a
          → Q (o then λ arguments. a then λ outer. ok (arguments ∷ outer)))
          → On (scopes_at x left b) (λ ss. P (from ns (k + 1) ss)) → On (scopes_at x left b) (λ ss. Q (from ns k ss))
      one-node P Q go u =
          on-two (λ ss. P (from ns (k + 1) ss))
          (λ ss. ScopeAt left (sheet_of x.root.now ns) (rows (drop (get_or places k 0) x.bytes.now))
          (scope_of (get_or c.ids k 0) (scopes_of ss (sheet_of x.root.now ns))))
          (λ ss. Q (from ns k ss)) (scopes_at x left b)
          (λ ss y z. rw (before-step x.root.now x.bytes.now (scopes_of ss (sheet_of x.root.now ns)) c.ids c.params c.count k
          (end_of c.refusal) h (omega (arith, v.few, v.ids_size)) (omega (arith, v.few, v.params-size)))
          (go _ _ (own ns i (scope_of (get_or c.ids k 0) (scopes_of ss (sheet_of x.root.now ns))) z (v.each ns i k h)) y)) u
          (placed left (sheet_of x.root.now ns) x.bytes.now b.scopes b.count c.ids places c.count k there h v.few
          (omega (arith, v.few, v.ids_size)))

      -- its refusal is that of all from here on
      node-refused : (l : List ℕ) (p : Arguments) (e : Refusal) → r ≡ Err e → Outer ns k l p l₂ (Err e)
      node-refused l p e z = one-node (λ a. Unit {0}) (λ a. Lists (outward a) l p l₂ (Err e)) (λ o a y t. go o a (rw z at y))
          (on-all {P = λ ss. Unit {0}} (λ ss. tt) (scopes_at x left b))
        where
          go : (o : Out (List Str)) (a : Out (List (List Str))) → Lists o l₁ q l₂ (Err e)
              → Lists (outward (o then λ arguments. a then λ outer. ok (arguments ∷ outer))) l p l₂ (Err e)
          go (ok ws) a y = clash (sym y.refusal)
          go (refused j) a y = let t = y.refusal in not_listed cc

      -- its arguments stand after those of the nodes further out
      node-after : (l : List ℕ) (p : Arguments) (met : Option Refusal) (s : Arguments) → r ≡ Ok s
          → Outer ns (k + 1) l p l₁ (settled met q) → Outer ns k l p l₂ (settled met s)
      unfolding outermost_first
      node-after l p met s z = one-node (λ a. Lists (outward a) l p l₁ (settled met q))
          (λ a. Lists (outward a) l p l₂ (settled met s)) (λ o a y t. go met o a (rw z at y) t)
        where
          go : (met : Option Refusal) (o : Out (List Str)) (a : Out (List (List Str))) → Lists o l₁ q l₂ (Ok s)
              → Lists (outward a) l p l₁ (settled met q)
              → Lists (outward (o then λ arguments. a then λ outer. ok (arguments ∷ outer))) l p l₂ (settled met s)
          go None (ok ws) (ok acc) y t = all_listed (listed-both (listed_of t) (listed_of y))
          go None (ok ws) (refused j) y t = clash t.refusal
          go (Some e) (ok ws) (ok acc) y t = clash (sym t.refusal)
          go (Some e) (ok ws) (refused j) y t = let u = t.refusal in not_listed cc
          go met (refused j) a y t = clash y.refusal

    -- over an empty buffer they may as well stand before them
    node-before : (k : ℕ) → k < c.count → (q s : Arguments) → OwnTold x (field_own c places k) left [] q [] (Ok s)
        → (ns : List Node) → Indexed x.bytes.now ns x.index.now → (r : Result Arguments Refusal)
        → Outer ns (k + 1) [] s [] r → Outer ns k [] q [] r
    unfolding outermost_first
    node-before k h q s own ns i r = one-node k h [] q [] (Ok s) own ns i (λ a. Lists (outward a) [] s [] r)
        (λ a. Lists (outward a) [] q [] r) (go r)
      where
        go : (r : Result Arguments Refusal) (o : Out (List Str)) (a : Out (List (List Str))) → Lists o [] q [] (Ok s)
            → Lists (outward a) [] s [] r
            → Lists (outward (o then λ arguments. a then λ outer. ok (arguments ∷ outer))) [] q [] r
        go (Ok r) (ok ws) (ok acc) y t =
            all_listed (listed_swap ws (outermost_first acc) (listed-both (listed_of y) (listed_of t)))
        go (Ok r) (ok ws) (refused j) y t = clash t.refusal
        go (Err e) (ok ws) (ok acc) y t = clash (sym t.refusal)
        go (Err e) (ok ws) (refused j) y t = let u = t.refusal in not_listed cc
        go r (refused j) a y t = clash y.refusal

-- ---- the walk over it

-- outwards in: what is written of the nodes from the k-th on
abbrev Writing : Source → ℕ → Brand → Links → List ℕ → Arguments → List ℕ → Arguments → Option Refusal → ℕ → Type 0
Writing x left b c l p l' q met k =
    (ns : List Node) → Indexed x.bytes.now ns x.index.now → Outer x left b c ns k l p l' (settled met q)

-- inwards out: what the nodes from the k-th on make of what is counted so far, all of them make of the start
pub record Counting (x : Source) (left : ℕ) (b : Brand) (c : Links) (l : List ℕ) (p : Arguments) (l' : List ℕ) (q : Arguments)
    (met : Option Refusal) (k : ℕ) : Type 0 where
  pub first : l ≡ []
  pub empty : l' ≡ []
  pub kept : met ≡ c.refusal
  pub rest : (ns : List Node) → Indexed x.bytes.now ns x.index.now → (r : Result Arguments Refusal)
      → Outer x left b c ns k [] q [] r → Outer x left b c ns 0 [] p [] r

-- what is known after so many nodes
abbrev Known : Bool → Source → ℕ → Brand → Links → List ℕ → Arguments → List ℕ → Arguments → Option Refusal → ℕ → Type 0
Known true x left b c l p l' q met done = Counting x left b c l p l' q met done
Known false x left b c l p l' q met done = Writing x left b c l p l' q met (c.count - done)

pub record Along (inward : Bool) (x : Source) (left : ℕ) (b : Brand) (c : Links) (l : List ℕ) (p : Arguments) (l' : List ℕ)
    (q : Arguments) (met : Option Refusal) (done : ℕ) : Type 0 where
  pub known : Known inward x left b c l p l' q met done

is-empty : (l : List ℕ) → length l ≡ 0 → l ≡ []
is-empty [] h = refl
is-empty (x ∷ l) h = let z : ⊥ = omega arith in absurd z

apart : {A : Type 0} → true ≡ false → A
apart e = never cc

module _ (x : Source) (left : ℕ) (b : Brand) (c : Links) (places : List ℕ) (v : ChainOf x.bytes.now x.index.now b.id c)
    (there : LastScopes x.bytes.now b.scopes b.count (take c.count c.ids) places) (l : List ℕ) (p : Arguments) where
  pub along-start : (inward : Bool) → (inward ≡ true → length l ≡ 0) → Along inward x left b c l p l p c.refusal 0
  along-start true e = record {
    known = record { first = is-empty l (e refl); empty = is-empty l (e refl); kept = refl; rest = λ ns i r h. h };
  }
  along-start false e = record {
    known = λ ns i. outer-end x left b c places v there ns (c.count - 0) l p (omega arith);
  }

  pub along-end : (inward : Bool) (l₁ : List ℕ) (q : Arguments) (met : Option Refusal) (done : ℕ)
      → Along inward x left b c l p l₁ q met done → c.count ≤ done → ChainTold x b left l p l₁ (settled met q)
  along-end true l₁ q met done w h =
      let k = w.known in
      outer-all x left b c places v there l p l₁ (settled met q) (λ ns i. rw (k.first, k.empty, k.kept)
      (k.rest ns i (settled c.refusal q) (outer-end x left b c places v there ns done [] q h)))
  along-end false l₁ q met done w h =
      let z : c.count - done ≡ 0 = omega arith in
      outer-all x left b c places v there l p l₁ (settled met q) (λ ns i. rw z at (w.known ns i))

  module _ (l₁ : List ℕ) (q : Arguments) (met : Option Refusal) (done k : ℕ) (h : done < c.count) (l₂ : List ℕ) where
    -- the node whose turn it is gave its arguments
    pub along-next : (inward : Bool) → k ≡ cond inward done (c.count - 1 - done) → (s : Arguments)
        → OwnTold x (field_own c places k) left l₁ q l₂ (Ok s) → WroteSome l₁ q.text l₂ s.text
        → Along inward x left b c l p l₁ q met done → Along inward x left b c l p l₂ s met (done + 1)
    along-next true e s own any w =
        let n = w.known in
        let z : l₂ ≡ [] = none_written n.empty any in record {
          known = record {
            first = n.first;
            empty = z;
            kept = n.kept;
            rest = λ ns i r u. n.rest ns i r (node-before x left b c places v there done h q s (rw (e, n.empty, z) at own) ns i
                r u);
          };
        }
    along-next false e s own any w =
        let f : k < c.count = omega arith in
        let y : c.count - done ≡ k + 1 = omega arith in
        let z : c.count - (done + 1) ≡ k = omega arith in record {
          known = λ ns i. rw z (node-after x left b c places v there k f l₁ q l₂ (Ok s) own ns i l p met s refl
              (rw y at (w.known ns i)));
        }

    module _ (e : Refusal) (own : OwnTold x (field_own c places k) left l₁ q l₂ (Err e)) where
      -- it was refused: outwards in, only those further in still matter
      pub along-refused : (inward : Bool) → k ≡ cond inward done (c.count - 1 - done) → inward ≡ false
          → Along inward x left b c l p l₂ q (Some e) (done + 1)
      along-refused true i f = apart f
      along-refused false i f =
          let f : k < c.count = omega arith in
          let z : c.count - (done + 1) ≡ k = omega arith in record {
            known = λ ns i. rw z (node-refused x left b c places v there k f l₁ q l₂ (Err e) own ns i l p e refl);
          }

      -- inwards out, the walk ends
      pub along-stop : (inward : Bool) → k ≡ cond inward done (c.count - 1 - done) → inward ≡ true
          → Along inward x left b c l p l₁ q met done → Kept l₁ q.text l₂ → ChainTold x b left l p l₂ (Err e)
      along-stop true i f w u =
          let n = w.known in
          let z : l₂ ≡ [] = is-empty l₂ (u.size ∙ ap (λ (a : List ℕ). length a) n.empty) in
          outer-all x left b c places v there l p l₂ (Err e) (λ ns j. rw (n.first, z) (n.rest ns j (Err e)
          (node-refused x left b c places v there done h [] q [] (Err e) (rw (i, n.empty, z) at own) ns j [] q e refl)))
      along-stop false i f w u = apart (sym f)
