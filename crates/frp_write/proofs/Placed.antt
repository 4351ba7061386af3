-- Things of the grammar that are others, places apart.
use Rattle.std.proofs.Common.{◌≡◌, ℕ, Bool, true, false, List, [], ◌∷◌, ◌++◌, length, map, refl, sym, ap, ◌∙◌}
use Rattle.std.specs.Prelude.{◌&&◌, not}
use Rattle.std.specs.List.{list_all}
use Rattle.std.proofs.lemmas.List.{length-map}
use Rattle.frp_base.proofs.Booleans.{both_true, not_true}
use Rattle.frp_expr.specs.declared.raw.Spot.{Spot}
use Rattle.frp_lex.specs.declared.token.Token.{Token}
use Rattle.frp_lex.specs.Spelling.{kinds}
use Rattle.frp_form.specs.Tokens.{is_literal}
use Rattle.frp_write.specs.Writing.{Kinds, run_together}
use Rattle.frp_form.specs.Grammar.{AreAll, none, more, IsUser}
use Rattle.frp_write.specs.Lawful.{is_user}
use Rattle.frp_write.proofs.Splitting.{part}

-- the tokens are something that is x, places apart
pub record Placed {A : Type 0} (Is : A → List Token → Type 0) (bare : A → A) (x : A) (ts : List Token) : Type 0 where
  pub y : A
  pub is : Is y ts
  pub same : bare y ≡ bare x

-- a name of the user is no literal
pub user : (x : Spot) → is_user x.text ≡ true → (a : ℕ) → IsUser (record { at = a; text = x.text })
user x h a = not_true (is_literal x.text) (both_true _ _ h).1

module _ {A : Type 0} (Is : A → List Token → Type 0) (bare : A → A) (kinds_of : A → Kinds) (lawful : A → Bool) where
  -- tokens of the kinds of something lawful are that, places apart
  abbrev pub Places : Type 0
  Places = (x : A) → lawful x ≡ true → (ts : List Token) → kinds ts ≡ kinds_of x → Placed Is bare x ts

  one_more : (x : A) (xs : List A) (us vs : List Token) → Placed Is bare x us → Placed (AreAll Is) (map bare) xs vs → Placed (AreAll Is) (map bare) (x ∷ xs) (us ++ vs)
  one_more x xs us vs p q = record { y = p.y ∷ q.y; is = more p.y q.y us vs p.is q.is; same = (λ i. p.same i ∷ q.same i) }

  no_tokens : (ts : List Token) → kinds ts ≡ [] → Placed (AreAll Is) (map bare) [] ts
  no_tokens [] h = record { y = []; is = none; same = refl }
  no_tokens (t ∷ ts) h = absurd cc

  pub all_placed : Places → (xs : List A) → list_all lawful xs ≡ true → (ts : List Token) → kinds ts ≡ run_together (map kinds_of xs) → Placed (AreAll Is) (map bare) xs ts
  all_placed places [] h ts e = no_tokens ts e
  all_placed places (x ∷ xs) h ts e =
      let p = both_true (lawful x) (list_all lawful xs) h in
      part (Placed (AreAll Is) (map bare) (x ∷ xs)) (kinds_of x) (run_together (map kinds_of xs)) (λ us vs d f. one_more x xs us vs (places x p.0 us d) (all_placed places xs p.1 vs f)) ts e

-- lists that are the same, places apart, are as long
pub as_long : {A : Type 0} (bare : A → A) (xs ys : List A) → map bare ys ≡ map bare xs → length ys ≡ length xs
as_long bare xs ys h = sym (length-map ys bare) ∙ ap length h ∙ length-map xs bare
