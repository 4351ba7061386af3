-- What is drawn along a range of numbers, for the first number and for the rest.
use Rattle.std.proofs.Common.{◌≡◌, ◌<◌, ℕ, suc, ◌+◌, ◌-◌, List, ◌∷◌, ◌++◌, append_assoc, arith, refl, sym, ap, ◌∙◌}
use Rattle.std.specs.Prelude.{fold}
use Rattle.std.specs.List.{range_with_len, scan}
use Rattle.frp_gen.specs.declared.item.Item.{Item}
use Rattle.frp_gen.specs.Generated.{item_text, item_texts, send_text, send_texts}

pub range-first : (i e : ℕ) → i < e → range_with_len i (e - i) ≡ i ∷ range_with_len (i + 1) (e - (i + 1))
range-first i e h =
    let here : e - i ≡ suc (e - (i + 1)) = omega arith in
    rw here refl

pub fold-first : {A : Type 0} (f : A → ℕ → A) (a : A) (i e : ℕ) → i < e
    → fold f a (range_with_len i (e - i)) ≡ fold f (f a i) (range_with_len (i + 1) (e - (i + 1)))
fold-first f a i e h = ap (fold f a) (range-first i e h)

pub scan-first : {A B : Type 0} (next : A → ℕ → A) (out : A → ℕ → B) (a : A) (i e : ℕ) → i < e
    → scan next out a (range_with_len i (e - i)) ≡ out a i ∷ scan next out (next a i) (range_with_len (i + 1) (e - (i + 1)))
scan-first next out a i e h = ap (scan next out a) (range-first i e h)

-- items that are written behind a text: the first, and then the rest
pub item_texts-first : {A : Type 0} (next : A → ℕ → A) (out : A → ℕ → Item) (text : List ℕ) (a : A) (i e : ℕ) → i < e
    → text ++ item_texts i (scan next out a (range_with_len i (e - i)))
    ≡ (text ++ item_text i (out a i)) ++ item_texts (i + 1) (scan next out (next a i) (range_with_len (i + 1) (e - (i + 1))))
item_texts-first next out text a i e h =
    ap (λ its. text ++ item_texts i its) (scan-first next out a i e h)
    ∙ sym (append_assoc text (item_text i (out a i)) (item_texts (i + 1) (scan next out (next a i) (range_with_len (i + 1) (e - (i + 1))))))

-- sends that are written behind a text: the first, and then the rest
pub send_texts-first : {A : Type 0} (next : A → ℕ → A) (out : A → ℕ → ℕ) (text : List ℕ) (a : A) (i e : ℕ) → i < e
    → text ++ send_texts (scan next out a (range_with_len i (e - i)))
    ≡ (text ++ send_text (out a i)) ++ send_texts (scan next out (next a i) (range_with_len (i + 1) (e - (i + 1))))
send_texts-first next out text a i e h =
    ap (λ vs. text ++ send_texts vs) (scan-first next out a i e h)
    ∙ sym (append_assoc text (send_text (out a i)) (send_texts (scan next out (next a i) (range_with_len (i + 1) (e - (i + 1))))))
