-- A name that neither is on a closed chain nor leads to one has ways of fewer links than there are names.
use Rattle.std.proofs.Common.{◌≡◌, ℕ, zero, suc, ◌+◌, ◌<◌, ◌≤◌, Bool, true, List, [], ◌∷◌, ◌++◌, length, refl, sym, ap, ◌∙◌, subst, arith, append_assoc, append-nil}
use Rattle.std.proofs.Common.{inl, inr}
use Rattle.std.proofs.lemmas.List.{length_push}
use Rattle.frp_base.specs.declared.name.Name.{Name}
use Rattle.frp_base.proofs.Booleans.{both_true, true_both}
use Rattle.frp_graph.specs.Links.{first_or, is_path, is_closed_chain}
use Rattle.frp_graph.specs.Evidence.{LeadsToChain}
use Rattle.frp_graph.proofs.Turns.{rings_turn}
use Rattle.frp_audit.proofs.Ranks.{In, Distinct, Low, in_or_not, no_more, in_push, distinct_push, distinct_front, distinct_back, distinct_test, parts_at, path_back, path_push}

first_push : (xs : List Name) (n m : Name) → first_or (xs ++ n ∷ []) m ≡ first_or xs n
first_push [] n m = refl
first_push (x ∷ xs) n m = refl

module _ (linked : Name → Name → Bool) where
  path_front : (xs : List Name) (c : Name) (cs : List Name) (end : Name) → is_path linked (xs ++ c ∷ cs) end ≡ true → is_path linked xs c ≡ true
  path_front [] c cs end h = refl
  path_front (x ∷ []) c cs end h = true_both _ _ (both_true _ _ h).0 refl
  path_front (x ∷ y ∷ xs) c cs end h = let p = both_true _ _ h in true_both _ _ p.0 (path_front (y ∷ xs) c cs end p.1)

  module _ (start : Name) where
    -- a path that begins at the start
    led : (x : Name) (xs : List Name) (first : Name) (others : List Name) → x ≡ start → is_path linked (x ∷ xs) first ≡ true → is_closed_chain linked (first ∷ others) ≡ true → LeadsToChain linked start
    led x xs first others e p c = record {
      first = first;
      others = others;
      closed = c;
      way = xs;
      leads = subst (λ (n : Name). is_path linked (n ∷ xs) first ≡ true) e p;
    }

    -- a path to a ring leads to the closed chain that the ring is turned to
    ring_led : (front back : List Name) (m : Name) → is_path linked (front ++ m ∷ back) m ≡ true → first_or (front ++ m ∷ back) m ≡ start
        → (fs ys chain : List Name) → m ∷ back ≡ fs ++ ys → chain ≡ ys ++ fs → is_closed_chain linked chain ≡ true → LeadsToChain linked start
    ring_led front back m p b fs [] chain parts put closed =
        let whole : chain ≡ m ∷ back = put ∙ sym (append-nil fs) ∙ sym parts in
        let c : is_closed_chain linked (m ∷ back) ≡ true = subst (λ (ns : List Name). is_closed_chain linked ns ≡ true) whole closed in
        by front p b c
      where
        by : (xs : List Name) → is_path linked (xs ++ m ∷ back) m ≡ true → first_or (xs ++ m ∷ back) m ≡ start → is_closed_chain linked (m ∷ back) ≡ true → LeadsToChain linked start
        by [] p b c = led m back m back b p c
        by (x ∷ xs) p b c = led x (xs ++ m ∷ back) m back b p c
    ring_led front back m p b fs (y ∷ ys) chain parts put closed =
        let whole : front ++ m ∷ back ≡ (front ++ fs) ++ y ∷ ys = ap (λ ns. front ++ ns) parts ∙ sym (append_assoc front fs (y ∷ ys)) in
        let c : is_closed_chain linked (y ∷ ys ++ fs) ≡ true = subst (λ (ns : List Name). is_closed_chain linked ns ≡ true) put closed in
        let path = subst (λ (ns : List Name). is_path linked ns m ≡ true) whole p in
        let begins = subst (λ (ns : List Name). first_or ns m ≡ start) whole b in
        by front fs parts path begins c
      where
        by : (xs zs : List Name) → m ∷ back ≡ zs ++ y ∷ ys → is_path linked ((xs ++ zs) ++ y ∷ ys) m ≡ true → first_or ((xs ++ zs) ++ y ∷ ys) m ≡ start
            → is_closed_chain linked (y ∷ ys ++ fs) ≡ true → LeadsToChain linked start
        by [] [] parts path begins c =
            let same : m ≡ y = ap (λ ns. first_or ns m) parts in
            led y ys y (ys ++ fs) begins (subst (λ (n : Name). is_path linked (y ∷ ys) n ≡ true) same path) c
        by [] (z ∷ zs) parts path begins c = led z zs y (ys ++ fs) begins (path_front (z ∷ zs) y ys m path) c
        by (x ∷ xs) zs parts path begins c = led x (xs ++ zs) y (ys ++ fs) begins (path_front (x ∷ xs ++ zs) y ys m path) c

    module _ (names : List Name) (sources : (a b : Name) → linked a b ≡ true → In a names) (none : LeadsToChain linked start → ⊥) where
      stop : (front back : List Name) (m : Name) → Distinct (m ∷ back) → is_path linked (front ++ m ∷ back) m ≡ true → first_or (front ++ m ∷ back) m ≡ start → ⊥
      stop front back m d p b =
          let t = rings_turn linked (m ∷ back) (true_both _ _ (distinct_test (m ∷ back) d) (path_back linked front (m ∷ back) m p)) in
          none (ring_led front back m p b t.turns.front t.turns.back t.chain t.turns.parts t.turns.put t.closed)

      among : (xs : List Name) (n : Name) → ((j : Name) → In j xs → In j names) → (m : Name) → linked n m ≡ true → (j : Name) → In j (xs ++ n ∷ []) → In j names
      among xs n f m link j h = elim (in_push j n xs h) [ inl i ↦ f j i | inr e ↦ subst (λ j. In j names) (sym e) (sources n m link) ]

      low_from : (k : ℕ) (xs : List Name) (n : Name) → Distinct (xs ++ n ∷ []) → ((j : Name) → In j xs → In j names) → is_path linked xs n ≡ true → first_or xs n ≡ start
          → length names < length xs + k → Low linked k n
      low_from zero xs n d f p b l =
          let few : length xs ≤ length names = no_more xs names (distinct_front n xs d) f in
          absurd (omega arith)
      low_from (suc k) xs n d f p b l = λ m link. elim (in_or_not m (xs ++ n ∷ [])) [
        | inl i ↦
            let at = parts_at m (xs ++ n ∷ []) i in
            let whole : is_path linked (at.0 ++ m ∷ at.1) m ≡ true = subst (λ ns. is_path linked ns m ≡ true) at.2 (path_push linked xs n m p link) in
            let begins : first_or (at.0 ++ m ∷ at.1) m ≡ start = subst (λ ns. first_or ns m ≡ start) at.2 (first_push xs n m ∙ b) in
            absurd (stop at.0 at.1 m (distinct_back at.0 (m ∷ at.1) (subst Distinct at.2 d)) whole begins)
        | inr o ↦
            let more : length (xs ++ n ∷ []) ≡ length xs + 1 = length_push xs n in
            low_from k (xs ++ n ∷ []) m (distinct_push m (xs ++ n ∷ []) d o) (among xs n f m link) (path_push linked xs n m p link) (first_push xs n m ∙ b) (omega arith)
      ]

      pub low_unled : Low linked (suc (length names)) start
      low_unled = low_from (suc (length names)) [] start (λ h. h, tt) (λ j h. absurd h) refl refl (omega arith)
