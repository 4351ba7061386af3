-- Items in packed chunks: where each stands, and what a write, an item more and a cut come to.
use Rattle.std.proofs.Common.{◌≡◌, ℕ, ◌+◌, ◌*◌, ◌-◌, ◌<◌, ◌≤◌, List, [], ◌∷◌, ◌++◌, length, min, take, get_or, set, zero, suc, refl, sym, ap, ◌∙◌, arith, subst, append_assoc, length-append, append-nil}
use Rattle.std.proofs.lemmas.List.{nil_from_length, set-append_left, get_or_append_left, get_or-append_right, length-take}
use Rattle.std.proofs.Math.Seq.{take-append-add}
use Rattle.frp_region.specs.Chunks.{chunk_items, ArePacked}

-- a write past the first list
set_past : {T : Type 0} (xs ys : List T) (i n : ℕ) (y : T) → n ≡ length xs + i → set (xs ++ ys) n y ≡ xs ++ set ys i y
set_past [] ys i n y e = ap (λ k. set ys k y) (omega (arith, e))
set_past (x ∷ xs) ys i zero y e = absurd (omega arith)
set_past (x ∷ xs) ys i (suc n) y e = ap (λ zs. x ∷ zs) (set_past xs ys i n y (omega (arith, e)))

-- as many items as are counted
pub packed_length : {T : Type 0} (chunks : List (List T)) (count : ℕ) → ArePacked chunks count → length (chunk_items chunks) ≡ count
packed_length [] count h = sym h
packed_length (c ∷ cs) count (h, hs) = omega (arith, length-append c (chunk_items cs), h, packed_length cs (count - 64) hs)

-- the chunks have the room
pub packed_room : {T : Type 0} (chunks : List (List T)) (count : ℕ) → ArePacked chunks count → count ≤ 64 * length chunks
packed_room [] count h = omega (arith, h)
packed_room (c ∷ cs) count (h, hs) = omega (arith, h, packed_room cs (count - 64) hs)

-- how many items the chunk i holds
pub chunk_length : {T : Type 0} (chunks : List (List T)) (count i : ℕ) (d : List T) → ArePacked chunks count → i < length chunks
    → length (get_or chunks i d) ≡ min 64 (count - 64 * i)
chunk_length [] count i d h l = absurd (omega arith)
chunk_length (c ∷ cs) count zero d (h, hs) l = omega (arith, h)
chunk_length (c ∷ cs) count (suc i) d (h, hs) l = omega (arith, chunk_length cs (count - 64) i d hs (omega arith))

-- the item j of the chunk i
pub item_at : {T : Type 0} (chunks : List (List T)) (count i j p : ℕ) (d : List T) (e : T) → p ≡ 64 * i + j → ArePacked chunks count → i < length chunks
    → j < length (get_or chunks i d) → get_or (chunk_items chunks) p e ≡ get_or (get_or chunks i d) j e
item_at [] count i j p d e q h l m = absurd (omega arith)
item_at (c ∷ cs) count zero j p d e q (h, hs) l m = let o : p ≡ j = omega (arith, q) in rw o (get_or_append_left c (chunk_items cs) e j m)
item_at (c ∷ cs) count (suc i) j p d e q (h, hs) l m =
    let full : length c ≡ 64 = omega (arith, h, m, chunk_length cs (count - 64) i d hs (omega arith)) in
    get_or-append_right c (chunk_items cs) 64 p e full (omega (arith, q)) ∙ item_at cs (count - 64) i j (p - 64) d e (omega (arith, q)) hs (omega arith) m

-- a write to the item j of the chunk i
pub write_at : {T : Type 0} (chunks : List (List T)) (count i j p : ℕ) (d : List T) (e : T) → p ≡ 64 * i + j → ArePacked chunks count → i < length chunks
    → j < length (get_or chunks i d) → chunk_items (set chunks i (set (get_or chunks i d) j e)) ≡ set (chunk_items chunks) p e
write_at [] count i j p d e q h l m = absurd (omega arith)
write_at (c ∷ cs) count zero j p d e q (h, hs) l m = let o : p ≡ j = omega (arith, q) in rw o (sym (set-append_left c (chunk_items cs) j e m))
write_at (c ∷ cs) count (suc i) j p d e q (h, hs) l m =
    let full : length c ≡ 64 = omega (arith, h, m, chunk_length cs (count - 64) i d hs (omega arith)) in
    ap (λ xs. c ++ xs) (write_at cs (count - 64) i j (p - 64) d e (omega (arith, q)) hs (omega arith) m) ∙ sym (set_past c (chunk_items cs) (p - 64) p e (omega (arith, q, full)))

-- a chunk of the same length in the place of the chunk i
pub packed_set : {T : Type 0} (chunks : List (List T)) (count i : ℕ) (d c : List T) → ArePacked chunks count → i < length chunks
    → length c ≡ length (get_or chunks i d) → ArePacked (set chunks i c) count
packed_set [] count i d e h l m = absurd (omega arith)
packed_set (c ∷ cs) count zero d e (h, hs) l m = (m ∙ h, hs)
packed_set (c ∷ cs) count (suc i) d e (h, hs) l m = (h, packed_set cs (count - 64) i d e hs (omega arith) m)

-- chunks without items
packed_none : {T : Type 0} (chunks : List (List T)) (count : ℕ) → count ≡ 0 → ArePacked chunks count → chunk_items chunks ≡ []
packed_none chunks count z h = nil_from_length (chunk_items chunks) (packed_length chunks count h ∙ z)

-- an item more at the end of the chunk i, the first one that is not full
pub put_at : {T : Type 0} (chunks : List (List T)) (count i j : ℕ) (d : List T) (e : T) → count ≡ 64 * i + j → j < 64 → ArePacked chunks count → i < length chunks
    → chunk_items (set chunks i (get_or chunks i d ++ e ∷ [])) ≡ chunk_items chunks ++ e ∷ []
put_at [] count i j d e q o h l = absurd (omega arith)
put_at (c ∷ cs) count zero j d e q o (h, hs) l = rw (packed_none cs (count - 64) (omega (arith, q)) hs) (append-nil (c ++ e ∷ []) ∙ ap (λ xs. xs ++ e ∷ []) (sym (append-nil c)))
put_at (c ∷ cs) count (suc i) j d e q o (h, hs) l =
    ap (λ xs. c ++ xs) (put_at cs (count - 64) i j d e (omega (arith, q)) o hs (omega arith)) ∙ sym (append_assoc c (chunk_items cs) (e ∷ []))

pub packed_put : {T : Type 0} (chunks : List (List T)) (count i j : ℕ) (d : List T) (e : T) → count ≡ 64 * i + j → j < 64 → ArePacked chunks count → i < length chunks
    → ArePacked (set chunks i (get_or chunks i d ++ e ∷ [])) (count + 1)
packed_put [] count i j d e q o h l = absurd (omega arith)
packed_put (c ∷ cs) count zero j d e q o (h, hs) l = (omega (arith, length-append c (e ∷ []), h, q), subst (ArePacked cs) (omega (arith, q)) hs)
packed_put (c ∷ cs) count (suc i) j d e q o (h, hs) l =
    (omega (arith, h, q), subst (ArePacked (set cs i (get_or cs i d ++ e ∷ []))) (omega (arith, q)) (packed_put cs (count - 64) i j d e (omega (arith, q)) o hs (omega arith)))

-- a chunk more, without items
pub packed_more : {T : Type 0} (chunks : List (List T)) (count : ℕ) → ArePacked chunks count → ArePacked (chunks ++ [] ∷ []) count
packed_more [] count h = (omega (arith, h), omega (arith, h))
packed_more (c ∷ cs) count (h, hs) = (h, packed_more cs (count - 64) hs)

pub joined_more : {T : Type 0} (chunks : List (List T)) → chunk_items (chunks ++ [] ∷ []) ≡ chunk_items chunks
joined_more [] = refl
joined_more (c ∷ cs) = ap (λ xs. c ++ xs) (joined_more cs)

-- the chunk i, the last one that has items, cut to its first j
pub cut_at : {T : Type 0} (chunks : List (List T)) (count i j p : ℕ) (d : List T) → p ≡ 64 * i + j → p ≤ count → 64 * i < count → count ≤ 64 * i + 64 → ArePacked chunks count
    → i < length chunks → chunk_items (set chunks i (take j (get_or chunks i d))) ≡ take p (chunk_items chunks)
cut_at [] count i j p d q o a b h l = absurd (omega arith)
cut_at (c ∷ cs) count zero j p d q o a b (h, hs) l =
    let none = packed_none cs (count - 64) (omega (arith, b)) hs in
    let same : p ≡ j = omega (arith, q) in
    rw none (rw same (append-nil (take j c) ∙ ap (take j) (sym (append-nil c))))
cut_at (c ∷ cs) count (suc i) j p d q o a b (h, hs) l =
    let place : length c + (p - 64) ≡ p = omega (arith, h, a, q) in
    ap (λ xs. c ++ xs) (cut_at cs (count - 64) i j (p - 64) d (omega (arith, q)) (omega (arith, o)) (omega (arith, a)) (omega (arith, b)) hs (omega arith))
    ∙ sym (take-append-add c (chunk_items cs) (p - 64)) ∙ ap (λ n. take n (c ++ chunk_items cs)) place

pub packed_cut : {T : Type 0} (chunks : List (List T)) (count i j p : ℕ) (d : List T) → p ≡ 64 * i + j → p ≤ count → 64 * i < count → count ≤ 64 * i + 64 → ArePacked chunks count
    → i < length chunks → ArePacked (set chunks i (take j (get_or chunks i d))) p
packed_cut [] count i j p d q o a b h l = absurd (omega arith)
packed_cut (c ∷ cs) count zero j p d q o a b (h, hs) l =
    (omega (arith, length-take j c, h, q, o, b), subst (ArePacked cs) (omega (arith, b, o)) hs)
packed_cut (c ∷ cs) count (suc i) j p d q o a b (h, hs) l =
    (omega (arith, h, a, q), packed_cut cs (count - 64) i j (p - 64) d (omega (arith, q)) (omega (arith, o)) (omega (arith, a)) (omega (arith, b)) hs (omega arith))
