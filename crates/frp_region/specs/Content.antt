-- What contracts see of a region.
use Rattle.std.specs.Prelude.{ℕ, List, slice_set, refl}
use Rattle.std.specs.Coded.{Coded, code_by, coded×, coded_ℕ, coded_list}

-- the items by place, and how many more can be put without memory
pub record Content (T : Type 0) : Type 0 where
  pub items : List T
  pub spare : ℕ

-- a content is stored as the pair of its fields
abbrev pub content_code : {T : Type 0} → Coded T → Coded (Content T)
content_code {T} code =
    code_by (List T × ℕ) (coded× (coded_list code) coded_ℕ) (λ c. (c.items, c.spare)) (λ p. record { items = p.0; spare = p.1 }) (λ _. refl)

-- the same content with an item at a place
abbrev pub with_item : {T : Type 0} → Content T → ℕ → T → Content T
with_item c place item = record c { items = slice_set c.items place item }
