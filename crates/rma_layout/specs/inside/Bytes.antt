-- Elements and blocks as the list of their bytes, in order.
use Rattle.std.specs.Prelude.{◌≡◌, ◌⊎◌, true, ℕ, zero, suc, ◌+◌, ℤ, pos, ◌+ℤ◌, List, [], ◌∷◌, ◌++◌, map, flat_map, Option, Some, None}
use Rattle.rma_datatype.specs.declared.basic.Basic.{Basic}
use Rattle.rma_datatype.specs.Basic.{basic_size}
use Rattle.rma_typemap.specs.Typemap.{Typemap, elements, start_of, gap}
use Rattle.rma_layout.specs.declared.block.Block.{Block}
use Rattle.rma_layout.specs.declared.space.Space.{Space}
use Rattle.rma_layout.specs.Refusal.{is_between}

-- bytes side by side
unfoldable pub span : ℤ → ℕ → List ℤ
span at zero = []
span at (suc n) = at ∷ span (at +ℤ pos 1) n

-- the bytes of blocks, and of elements, one after another
unfoldable pub bytes_of : List Block → List ℤ
bytes_of blocks = flat_map (λ (b : Block). span b.start b.len) blocks

unfoldable pub bytes_in : List (Basic × ℤ) → List ℤ
bytes_in es = flat_map (λ (e : Basic × ℤ). span (start_of e) (basic_size e.0)) es

-- bytes, moved by a distance
unfoldable pub moved : ℤ → List ℤ → List ℤ
moved by bytes = map (λ b. by +ℤ b) bytes

-- copies of bytes, the first moved by `at`, and each a stride after the one before it
unfoldable pub copies : ℕ → ℤ → ℤ → List ℤ → List ℤ
copies zero at stride bytes = []
copies (suc n) at stride bytes = moved at bytes ++ copies n (at +ℤ stride) stride bytes

-- the bytes of the elements of a typemap
abbrev pub typemap_bytes : Typemap → List ℤ
typemap_bytes parts = bytes_in (elements parts)

-- b is one of the bytes
abbrev pub IsAmong : List ℤ → ℤ → Type 0
IsAmong [] b = ⊥
IsAmong (x ∷ xs) b = (b ≡ x) ⊎ IsAmong xs b

-- a byte stands at two places
abbrev pub Repeats : List ℤ → Type 0
Repeats [] = ⊥
Repeats (x ∷ xs) = IsAmong xs x ⊎ Repeats xs

-- the bytes of a block lie in a space, which holds of a block without one
abbrev pub IsBlockIn : Space → Block → Type 0
IsBlockIn space block = (block.len ≡ 0) ⊎ (is_between space block.start (block.start +ℤ pos block.len) ≡ true)

-- ---- blocks, counted

-- 1 where a byte begins a block: where there is none before it, or that ends elsewhere
abbrev pub begins : Option ℤ → ℤ → ℕ
begins None b = 1
begins (Some end) b = gap end b

-- how many bytes begin a block, where the byte before the first ends at `end`
unfoldable pub breaks_from : Option ℤ → List ℤ → ℕ
breaks_from end [] = 0
breaks_from end (b ∷ bytes) = begins end b + breaks_from (Some (b +ℤ pos 1)) bytes

-- where the last byte ends
unfoldable pub end_from : Option ℤ → List ℤ → Option ℤ
end_from end [] = end
end_from end (b ∷ bytes) = end_from (Some (b +ℤ pos 1)) bytes

abbrev pub breaks : List ℤ → ℕ
breaks bytes = breaks_from None bytes
