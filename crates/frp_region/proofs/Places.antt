-- The chunk of a place, and its number there; and what is done to that chunk, said of all the items.
use Rattle.std.proofs.Common.{◌≡◌, ℕ, ◌+◌, ◌*◌, ◌-◌, ◌/◌, ◌%◌, ◌<◌, ◌≤◌, List, [], ◌∷◌, ◌++◌, length, take, get_or, set, sym, ap, ◌∙◌, arith, subst, slice_get, Some, refl}
use Rattle.std.proofs.lemmas.List.{length-set}
use Rattle.std.proofs.lemmas.Option.{slice_get_read, get_or_from_slice_get}
use Rattle.frp_region.specs.Chunks.{chunk_items, ArePacked}
use Rattle.frp_region.proofs.Packing.{packed_length, packed_room, chunk_length, item_at, write_at, packed_set, put_at, packed_put, cut_at, packed_cut}

module _ {T : Type 0} (chunks : List (List T)) (count : ℕ) (h : ArePacked chunks count) where
  -- the place is in one of the chunks
  pub chunk_found : (p : ℕ) → p < length (chunk_items chunks) → p / 64 < length chunks
  chunk_found p l = omega (arith, l, packed_length chunks count h, packed_room chunks count h)

  -- the number of the place is one of the chunk's items
  pub number_found : (p : ℕ) (chunk : List T) → p < length (chunk_items chunks) → chunk ≡ get_or chunks (p / 64) chunk → p % 64 < length chunk
  number_found p chunk l e =
      omega (arith, l, ap length e, packed_length chunks count h, chunk_length chunks count (p / 64) chunk h (chunk_found p l))

  -- the item at the place is the chunk's item of that number
  pub item_found : (p : ℕ) (chunk : List T) (item : T) → p < length (chunk_items chunks) → chunk ≡ get_or chunks (p / 64) chunk → slice_get chunk (p % 64) ≡ Some item
      → slice_get (chunk_items chunks) p ≡ Some item
  item_found p chunk item l e o =
      let found = chunk_found p l in
      let number = subst (λ c. p % 64 < length c) e (number_found p chunk l e) in
      let same = item_at chunks count (p / 64) (p % 64) p chunk item (omega arith) h found number in
      slice_get_read (chunk_items chunks) (length (chunk_items chunks)) p item refl l (sym (same ∙ ap (λ c. get_or c (p % 64) item) (sym e) ∙ get_or_from_slice_get chunk (p % 64) item item o))

  -- a write to the chunk's item is one to the item at the place
  pub packed_write : (p : ℕ) (chunk : List T) (item : T) → p < length (chunk_items chunks) → chunk ≡ get_or chunks (p / 64) chunk → ArePacked (set chunks (p / 64) (set chunk (p % 64) item)) count
  packed_write p chunk item l e =
      packed_set chunks count (p / 64) chunk (set chunk (p % 64) item) h (chunk_found p l) (length-set chunk (p % 64) item ∙ ap length e)

  pub joined_write : (p : ℕ) (chunk : List T) (item : T) → p < length (chunk_items chunks) → chunk ≡ get_or chunks (p / 64) chunk
      → chunk_items (set chunks (p / 64) (set chunk (p % 64) item)) ≡ set (chunk_items chunks) p item
  joined_write p chunk item l e =
      let number = subst (λ c. p % 64 < length c) e (number_found p chunk l e) in
      ap (λ c. chunk_items (set chunks (p / 64) (set c (p % 64) item))) e ∙ write_at chunks count (p / 64) (p % 64) p chunk item (omega arith) h (chunk_found p l) number

  -- where there is room, the first chunk that is not full
  pub chunk_open : count < 64 * length chunks → count / 64 < length chunks
  chunk_open l = omega (arith, l)

  pub number_open : (chunk : List T) → count < 64 * length chunks → chunk ≡ get_or chunks (count / 64) chunk → length chunk < 64
  number_open chunk l e = omega (arith, ap length e, chunk_length chunks count (count / 64) chunk h (chunk_open l))

  -- an item more in that chunk is an item more at the end
  pub packed_pushed : (chunk more : List T) (item : T) → count < 64 * length chunks → chunk ≡ get_or chunks (count / 64) chunk → more ≡ chunk ++ item ∷ []
      → ArePacked (set chunks (count / 64) more) (count + 1)
  packed_pushed chunk more item l e m =
      subst (λ c. ArePacked (set chunks (count / 64) c) (count + 1)) (ap (λ c. c ++ item ∷ []) (sym e) ∙ sym m)
      (packed_put chunks count (count / 64) (count % 64) chunk item (omega arith) (omega arith) h (chunk_open l))

  pub joined_pushed : (chunk more : List T) (item : T) → count < 64 * length chunks → chunk ≡ get_or chunks (count / 64) chunk → more ≡ chunk ++ item ∷ []
      → chunk_items (set chunks (count / 64) more) ≡ chunk_items chunks ++ item ∷ []
  joined_pushed chunk more item l e m =
      ap (λ c. chunk_items (set chunks (count / 64) c)) (m ∙ ap (λ c. c ++ item ∷ []) e)
      ∙ put_at chunks count (count / 64) (count % 64) chunk item (omega arith) (omega arith) h (chunk_open l)

  -- where there are items, the last chunk that has any
  pub chunk_last : 0 < count → (count - 1) / 64 < length chunks
  chunk_last l = omega (arith, l, packed_room chunks count h)

  -- that chunk cut is all the items cut
  pub packed_shortened : (chunk kept : List T) (p : ℕ) → p < count → (count - 1) / 64 * 64 ≤ p → chunk ≡ get_or chunks ((count - 1) / 64) chunk
      → kept ≡ take (p - (count - 1) / 64 * 64) chunk → ArePacked (set chunks ((count - 1) / 64) kept) p
  packed_shortened chunk kept p l o e k =
      subst (λ c. ArePacked (set chunks ((count - 1) / 64) c) p) (ap (take (p - (count - 1) / 64 * 64)) (sym e) ∙ sym k)
      (packed_cut chunks count ((count - 1) / 64) (p - (count - 1) / 64 * 64) p chunk (omega (arith, o)) (omega (arith, l)) (omega (arith, l)) (omega (arith, l)) h (chunk_last (omega (arith, l))))

  pub joined_shortened : (chunk kept : List T) (p : ℕ) → p < count → (count - 1) / 64 * 64 ≤ p → chunk ≡ get_or chunks ((count - 1) / 64) chunk
      → kept ≡ take (p - (count - 1) / 64 * 64) chunk → chunk_items (set chunks ((count - 1) / 64) kept) ≡ take p (chunk_items chunks)
  joined_shortened chunk kept p l o e k =
      ap (λ c. chunk_items (set chunks ((count - 1) / 64) c)) (k ∙ ap (take (p - (count - 1) / 64 * 64)) e)
      ∙ cut_at chunks count ((count - 1) / 64) (p - (count - 1) / 64 * 64) p chunk (omega (arith, o)) (omega (arith, l)) (omega (arith, l)) (omega (arith, l)) h (chunk_last (omega (arith, l)))
