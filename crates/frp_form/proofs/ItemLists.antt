-- Reading items one after the other against the grammar.
use Rattle.std.proofs.Common.{◌≡◌, ℕ, zero, suc, ◌<◌, ◌≤◌, List, [], ◌∷◌, ◌++◌, length, Option, Some, None, Ok, Err, refl, ap, ◌∙◌, subst, append_assoc, length-append, arith}
use Rattle.frp_lex.specs.declared.token.Token.{Token}
use Rattle.frp_form.specs.declared.fault.FormFault.{FormFault}
use Rattle.frp_form.specs.declared.over.Over.TheVariants as o
use Rattle.frp_form.specs.Gives.{FormOutcome, Parser, ◌>>=◌}
use Rattle.frp_form.specs.Lists.{ended, items, many, over_at}
use Rattle.frp_form.specs.Grammar.{AreAll, none, more}
use Rattle.frp_form.proofs.ListLemmas.{one_item}
use Rattle.frp_form.proofs.Steps.{ok_of, bind_ok, Splits, Begins, Sound, Complete, both}

-- the tokens are at most so many items, and then what ends them
pub record Listed {A : Type 0} (ends : List Token → Option (List Token)) (Is : A → List Token → Type 0) (n : ℕ) (xs : List A) (ts after : List Token) : Type 0 where
  pub front : List Token
  pub tail : List Token
  pub parts : Splits ts front tail
  pub ended_here : ends tail ≡ Some after
  pub all : AreAll Is xs front
  pub few : length xs ≤ n

module _ {A : Type 0} (ends : List Token → Option (List Token)) (over : List Token → FormFault) (item : Parser A) (Is : A → List Token → Type 0) where
  no_more : (n : ℕ) (ts after : List Token) → ends ts ≡ Some after → Listed ends Is n [] ts after
  no_more n ts after h = record { front = []; tail = ts; parts = record { is = refl }; ended_here = h; all = none; few = omega arith }

  ended_or : (n : ℕ) (ts : List Token) (x : List A × List Token) (q : Option (List Token)) (m : FormOutcome (List A × List Token)) → ends ts ≡ q → ended ends over item q m ≡ Ok x → (m ≡ Ok x → Listed ends Is n x.0 ts x.1) → Listed ends Is n x.0 ts x.1
  ended_or n ts x (Some after) m e h go = subst (λ (y : List A × List Token). Listed ends Is n y.0 ts y.1) (ok_of ([], after) x h) (no_more n ts after e)
  ended_or n ts x None m e h go = go h

  one_more : (n : ℕ) (ts us after : List Token) (x : A) (xs : List A) → Begins Is x ts us → Listed ends Is n xs us after → Listed ends Is (suc n) (x ∷ xs) ts after
  one_more n ts us after x xs b l = record { front = b.front ++ l.front; tail = l.tail; parts = both b.parts l.parts; ended_here = l.ended_here; all = more x xs b.front l.front b.is l.all; few = omega (arith, l.few) }

  pub items_sound : Sound item Is → (n : ℕ) (ts : List Token) (x : List A × List Token) → items ends over item n ts ≡ Ok x → Listed ends Is n x.0 ts x.1
  unfolding items
  items_sound sound zero ts x h = ended_or 0 ts x (ends ts) (Err (over ts)) refl h (λ e. absurd cc)
  items_sound sound (suc n) ts x h = ended_or (suc n) ts x (ends ts) _ refl h (λ e.
      let p = bind_ok (item ts) _ _ e in
      let q = bind_ok (items ends over item n p.0.1) _ _ p.2 in
      let y : List A × List Token = (p.0.0 ∷ q.0.0, q.0.1) in
      subst (λ (z : List A × List Token). Listed ends Is (suc n) z.0 ts z.1) (ok_of y x q.2) (one_more n ts p.0.1 q.0.1 p.0.0 q.0.0 (sound ts p.0 p.1) (items_sound sound n p.0.1 q.0 q.1)))

  -- an item begins with what ends no list
  abbrev pub Starts : Type 0
  Starts = (x : A) (ts rest : List Token) → Is x ts → ends (ts ++ rest) ≡ None

  pub items_read : Complete item Is → Starts → (n : ℕ) (xs : List A) (ts tail after : List Token) → AreAll Is xs ts → length xs ≤ n → ends tail ≡ Some after → items ends over item n (ts ++ tail) ≡ Ok (xs, after)
  unfolding items
  items_read complete starts zero xs ts tail after none few e = rw e refl
  items_read complete starts zero xs ts tail after (more y ys us vs is all) few e = absurd (omega (arith, few))
  items_read complete starts (suc n) xs ts tail after none few e = rw e refl
  items_read complete starts (suc n) xs ts tail after (more y ys us vs is all) few e =
      ap (items ends over item (suc n)) (append_assoc us vs tail)
      ∙ one_item ends over item n (us ++ (vs ++ tail)) y (vs ++ tail) (starts y us (vs ++ tail) is) (complete y us (vs ++ tail) is)
      ∙ ap (λ (r : FormOutcome (List A × List Token)). r >>= λ xs. Ok (y ∷ xs.0, xs.1)) (items_read complete starts n ys vs tail after all (omega (arith, few)) e)

  some_tokens : Starts → (tail after : List Token) → ends tail ≡ Some after → (x : A) (ts : List Token) → Is x ts → 0 < length ts
  some_tokens starts tail after e x [] is = let s : ends tail ≡ None = starts x [] tail is in absurd cc
  some_tokens starts tail after e x (t ∷ ts) is = omega arith

  -- each item takes a token
  pub all_within : Starts → (tail after : List Token) → ends tail ≡ Some after → (xs : List A) (ts : List Token) → AreAll Is xs ts → length xs ≤ length ts
  all_within starts tail after e xs ts none = omega arith
  all_within starts tail after e xs ts (more y ys us vs is all) =
      let first = some_tokens starts tail after e y us is in
      let others = all_within starts tail after e ys vs all in
      omega (arith, first, others, length-append us vs)

module _ {A : Type 0} (end : ℕ) (ends : List Token → Option (List Token)) (item : Parser A) (Is : A → List Token → Type 0) where
  pub many_sound : Sound item Is → (ts : List Token) (x : List A × List Token) → many end ends item ts ≡ Ok x → Listed ends Is (length ts) x.0 ts x.1
  unfolding many
  many_sound sound ts x h = items_sound ends (over_at end o.End) item Is sound (length ts) ts x h

  pub many_read : Complete item Is → Starts ends (over_at end o.End) item Is → (xs : List A) (ts tail after : List Token) → AreAll Is xs ts → ends tail ≡ Some after → many end ends item (ts ++ tail) ≡ Ok (xs, after)
  unfolding many
  many_read complete starts xs ts tail after all e =
      let within = all_within ends (over_at end o.End) item Is starts tail after e xs ts all in
      items_read ends (over_at end o.End) item Is complete starts (length (ts ++ tail)) xs ts tail after all (omega (arith, within, length-append ts tail)) e
