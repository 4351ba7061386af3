-- Nodes that are made by nodes which aren't settled yet: their makers' sources are, and so both sights have the same instances.
use Rattle.std.proofs.Common.{◌≡◌, ℕ, zero, suc, ◌+◌, ◌<◌, ◌≤◌, Bool, true, false, List, [], ◌∷◌, length, take, Option, Some, None, refl, sym, ap, ◌∙◌, subst, arith}
use Rattle.std.proofs.Common.{inl, inr}
use Rattle.std.specs.Prelude.{◌||◌, nat_lt}
use Rattle.std.specs.List.{AllByRecursion}
use Rattle.std.proofs.lemmas.Bool.Decides.{nat_tests}
use Rattle.std.proofs.lemmas.List.{length_push}
use Rattle.frp_base.specs.declared.name.Name.{Name}
use Rattle.frp_base.specs.declared.name.Stage.{Stage}
use Rattle.frp_base.specs.declared.ty.Ty.{Ty}
use Rattle.frp_base.specs.declared.val.Val.{Val}
use Rattle.frp_base.specs.Name.{maker, made_name}
use Rattle.frp_base.proofs.Booleans.{either_true, or_more, is_true, is_false}
use Rattle.frp_graph.specs.declared.prog.Prog.{Prog}
use Rattle.frp_graph.specs.declared.trace.Node.{Node}
use Rattle.frp_graph.specs.declared.trace.Sent.{Sent}
use Rattle.frp_graph.specs.declared.shape.Shape.{Shape}
use Rattle.frp_graph.specs.declared.shape.Shape.TheVariants.{Execute}
use Rattle.frp_graph.specs.declared.evidence.Phase.TheVariants.{Birth}
use Rattle.frp_graph.specs.Trace.{Sight, post_in}
use Rattle.frp_graph.specs.Roles.{Execution, execution}
use Rattle.frp_graph.specs.Births.{instance_in, plans_by}
use Rattle.frp_graph.specs.Evidence.{has_reads}
use Rattle.frp_graph.specs.Links.{during_links, is_new, is_linked}
use Rattle.frp_graph.specs.TypedProg.{IsTypedProg}
use Rattle.frp_graph.specs.WellFormed.{Allows}
use Rattle.frp_graph.specs.ShapeLaws.{Stays}
use Rattle.frp_audit.proofs.Ranks.{Low}
use Rattle.frp_audit.proofs.Seen.{Within, seen, pre_seen, type_shown, shown_allowed}
use Rattle.frp_audit.proofs.Sides.{Extends, holds, Agrees, pre_stays}
use Rattle.frp_audit.proofs.Firsts.{IsPlanned, agrees_made}
use Rattle.frp_audit.proofs.Firing.{made_same}
use Rattle.frp_audit.proofs.Makers.{AreMade, AreAllMade, executed_planned}
use Rattle.frp_audit.proofs.Back.{reads_back}

-- a maker's name is shorter
take_short : {A : Type 0} (k : ℕ) (xs : List A) → length (take k xs) ≤ k
take_short zero xs = omega arith
take_short (suc k) [] = omega arith
take_short (suc k) (x ∷ xs) = let rest = take_short k xs in omega arith

pub maker_short : (n m : Name) → maker n ≡ Some m → length m < length n
maker_short [] m e = absurd cc
maker_short (s ∷ []) m e = absurd cc
maker_short (s ∷ r ∷ ss) m e =
    let same : ◌≡◌ {A = List Stage} (s ∷ take (length ss) (r ∷ ss)) m = cc in
    let short = take_short (length ss) (r ∷ ss) in
    subst (λ (k : Name). length k < length (s ∷ r ∷ ss)) same (omega arith)

lt_test : (a b : ℕ) → a < b → nat_lt a b ≡ true
lt_test a b h = grind (arith, nat_tests)

test_lt : (a b : ℕ) → nat_lt a b ≡ true → a < b
test_lt a b h = grind (arith, nat_tests)

-- the source of an execute is its only link
source_all : (P : Name → Type 0) (v : Sight) (after : Name → Option Val) (s : Shape) (e : Execution) → execution s ≡ Some e → P e.source → AllByRecursion P (during_links v after s)
source_all P v after (Execute a template kept) e h p =
    let of : Execution = record { source = a; template = template; kept = kept } in
    let same : of ≡ e = cc in
    (subst P (sym (ap (λ (c : Execution). c.source) same)) p, tt)
source_all P v after _ e h p = absurd cc

module _ (prog : Prog) (typed : IsTypedProg prog) (sends : List Sent) (old w u : Sight) (ew : Extends old w) (eu : Extends old u) (made : AreMade prog w) (whole : AreAllMade prog u)
    (base fired : Name → Bool) (olds : (n : Name) → is_new w n ≡ false → base n ≡ true) (files : (n : Name) → maker n ≡ None → base n ≡ true)
    (agrees : Agrees prog w u base fired) (lows : (n : Name) (x : Node) (v : Val) → w.node n ≡ Some x → x.first ≡ Some v → (k : ℕ) × Low (is_linked w Birth) k n) where
  -- a node that has made an instance, whose source has fired
  pub record IsMaker (m : Name) : Type 0 where
    pub node : Node
    pub is_live : w.node m ≡ Some node
    pub call : Execution
    pub executes : execution node.shape ≡ Some call
    pub source_fired : fired call.source ≡ true
    pub reads : has_reads prog w node node.shape ≡ true

  -- and all that it makes is there
  abbrev pub HasMade : Name → Type 0
  HasMade m = (is : IsMaker m) × AllByRecursion (λ d. (y : Node) × (w.node d.name ≡ Some y)) (plans_by prog w is.node)

  module _ (makers : (n : Name) (x : Node) (m : Name) → w.node n ≡ Some x → is_new w n ≡ true → maker n ≡ Some m → HasMade m) where
    abbrev pub few : ℕ → Name → Bool
    few j n = base n || nat_lt (length n) j

    few_more : (j : ℕ) → Within (few j) (few (suc j))
    few_more j n h = elim (either_true (base n) (nat_lt (length n) j) h) [
      | inl b ↦ ap (λ c. c || nat_lt (length n) (suc j)) b
      | inr l ↦ (let less = test_lt (length n) j l in or_more (base n) _ (lt_test (length n) (suc j) (omega arith)))
    ]

    olds_at : (j : ℕ) (n : Name) → is_new w n ≡ false → few j n ≡ true
    olds_at j n e = ap (λ c. c || nat_lt (length n) j) (olds n e)

    agrees_first : Agrees prog w u (few 0) fired
    agrees_first = agrees_made prog typed old w u ew eu base (few 0) fired within olds agrees none lows where
      within : Within base (few 0)
      within n h = ap (λ c. c || nat_lt (length n) 0) h

      none : (n : Name) (x : Node) → base n ≡ false → few 0 n ≡ true → w.node n ≡ Some x → IsPlanned prog typed old w u ew eu base (few 0) fired within olds agrees n x
      none n x f s e =
          let l : nat_lt (length n) 0 ≡ true = rw f at s in
          let less = test_lt (length n) 0 l in
          absurd (omega arith)

    module _ (j : ℕ) (here : Agrees prog w u (few j) fired) where
      abbrev part : Sight
      part = seen w (few j) (holds w) fired

      -- what a maker has made
      module _ (m : Name) (is : IsMaker m) (shown : few j m ≡ true) where
        allowed : Allows prog part is.node.ty is.node.shape
        allowed = shown_allowed prog w (few j) (holds w) fired m is.node here.formed shown is.is_live

        reads : has_reads prog part is.node is.node.shape ≡ true
        reads =
            reads_back prog w (few j) fired here.formed is.node is.node.ty is.node.shape allowed
            (source_all (λ k. fired k ≡ true) w (post_in w) is.node.shape is.call is.executes is.source_fired) is.reads

        own_stays : Stays part.pre w.pre
        own_stays k v e = (pre_seen w (few j) (holds w) fired k v e).1

        own_occ : w.occ is.call.source ≡ part.occ is.call.source
        own_occ = let f : fired is.call.source ≡ true = is.source_fired in rw f refl

        source_there : (a : Ty) (s : Shape) → Allows prog part a s → execution s ≡ Some is.call → (z : Node) × (w.node is.call.source ≡ Some z)
        source_there a (Execute k template kept) (d, pattern, source, fit, ty) e =
            let of : Execution = record { source = k; template = template; kept = kept } in
            let same : of ≡ is.call = cc in
            let z = type_shown w (few j) (holds w) fired k _ source in
            (z.1, ap w.node (sym (ap (λ (c : Execution). c.source) same)) ∙ z.2)
        source_there a _ p e = absurd cc

        other_occ : u.occ is.call.source ≡ part.occ is.call.source
        other_occ = let z = source_there is.node.ty is.node.shape allowed is.executes in here.occs is.call.source z.0 is.source_fired z.1 ∙ own_occ

        pub own : instance_in prog w is.node.name is.node.shape ≡ instance_in prog part is.node.name is.node.shape
        own = made_same prog sends part w refl own_stays is.node is.node.shape (source_all (λ k. w.occ k ≡ part.occ k) part (post_in part) is.node.shape is.call is.executes own_occ) reads

        pub other : instance_in prog u is.node.name is.node.shape ≡ instance_in prog part is.node.name is.node.shape
        other =
            made_same prog sends part u (eu.time ∙ sym ew.time) (pre_stays prog old w u ew eu (few j) fired here) is.node is.node.shape
            (source_all (λ k. u.occ k ≡ part.occ k) part (post_in part) is.node.shape is.call is.executes other_occ) reads

      planned_next : (n : Name) (x : Node) → few j n ≡ false → few (suc j) n ≡ true → w.node n ≡ Some x
          → IsPlanned prog typed old w u ew eu (few j) (few (suc j)) fired (few_more j) (olds_at j) here n x
      planned_next n x f s live = by (maker n) refl where
        not_base : base n ≡ false
        not_base = is_false (base n) (λ b. let t : few j n ≡ true = ap (λ c. c || nat_lt (length n) j) b in cc)

        new : is_new w n ≡ true
        new = is_true (is_new w n) (λ o. let t = olds_at j n o in cc)

        is_long : length n < suc j
        is_long = let t : nat_lt (length n) (suc j) ≡ true = rw not_base at s in test_lt (length n) (suc j) t

        by : (o : Option Name) → maker n ≡ o → IsPlanned prog typed old w u ew eu (few j) (few (suc j)) fired (few_more j) (olds_at j) here n x
        by None e = absurd (let t = files n e in cc)
        by (Some m) e =
            let has = makers n x m live new e in
            let is = has.0 in
            let short = maker_short n m e in
            let long = is_long in
            let shown : few j m ≡ true = or_more (base m) _ (lt_test (length m) j (omega arith)) in
            let name : is.node.name ≡ m = ew.named m is.node is.is_live in
            let made_shown : (k : ℕ) → few (suc j) (made_name is.node.name w.time k) ≡ true
            = λ k.
            let l : length (made_name is.node.name w.time k) ≡ length is.node.name + 1 = length_push is.node.name _ in
            let same : length is.node.name ≡ length m = ap length name in
            or_more (base (made_name is.node.name w.time k)) _ (lt_test (length (made_name is.node.name w.time k)) (suc j) (omega arith)) in
            executed_planned prog typed sends old w u ew eu made whole (few j) (few (suc j)) fired (few_more j) (olds_at j) here m is.node is.is_live shown
            (own m is shown) (other m is shown) has.1 made_shown n x live new e

      agrees_next : Agrees prog w u (few (suc j)) fired
      agrees_next = agrees_made prog typed old w u ew eu (few j) (few (suc j)) fired (few_more j) (olds_at j) here planned_next lows

    pub agrees_all : (j : ℕ) → Agrees prog w u (few j) fired
    agrees_all zero = agrees_first
    agrees_all (suc j) = agrees_next j (agrees_all j)

    -- so each node has its place
    pub shown_in : (n : Name) → few (suc (length n)) n ≡ true
    shown_in n = or_more (base n) _ (lt_test (length n) (suc (length n)) (omega arith))
