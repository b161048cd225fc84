-- Kinds, and the four bytes of a texel. Definitions only.
use Rattle.std.specs.Prelude.{cond, ℕ, ◌+◌, ◌*◌, ◌/◌, ◌%◌, eqb}
use Rattle.rules.specs.declared.Kind.{Kind}
use Rattle.rules.specs.declared.Kind.TheVariants.{Srgb, Normal, MetallicRoughness, Cubemap, Linear}

-- kind codes: 0 SRGB, 1 Normal, 2 MetallicRoughness, 3 Cubemap, 4 Linear
abbrev pub srgb : ℕ
srgb = 0

abbrev pub normal : ℕ
normal = 1

abbrev pub metallic_roughness : ℕ
metallic_roughness = 2

abbrev pub cubemap : ℕ
cubemap = 3

abbrev pub linear : ℕ
linear = 4

abbrev pub code_of : Kind → ℕ
code_of Srgb = srgb
code_of Normal = normal
code_of MetallicRoughness = metallic_roughness
code_of Cubemap = cubemap
code_of Linear = linear

-- the kind of a code that is known
unfoldable pub kind_of : ℕ → Kind
kind_of code =
    cond (eqb code srgb) Srgb
    (cond (eqb code normal) Normal
    (cond (eqb code metallic_roughness) MetallicRoughness
    (cond (eqb code cubemap) Cubemap Linear)))

-- six faces for a cubemap, one for every other kind
unfoldable pub faces_of : ℕ → ℕ
faces_of kind = cond (eqb kind cubemap) 6 1

-- a texel is a 32-bit number, red in the top byte, then green, blue, alpha
abbrev pub red_of : ℕ → ℕ
red_of t = t / 16777216

abbrev pub green_of : ℕ → ℕ
green_of t = t / 65536 % 256

abbrev pub blue_of : ℕ → ℕ
blue_of t = t / 256 % 256

abbrev pub alpha_of : ℕ → ℕ
alpha_of t = t % 256

unfoldable pub rgba : ℕ → ℕ → ℕ → ℕ → ℕ
rgba r g b a = r * 16777216 + g * 65536 + b * 256 + a
