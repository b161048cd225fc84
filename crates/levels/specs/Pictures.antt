-- What a picture that is taken is made of, and where one face of a level stands. Definitions only.
use Rattle.std.specs.Prelude.{◌≡◌, ℕ, ◌*◌}
use Rattle.rules.specs.Kinds.{faces_of, code_of}
use Rattle.rules.specs.Sizes.{side_at}
use Rattle.rules.specs.View.{face_start}
use Rattle.levels.specs.declared.picture.Picture.{Picture}
use Rattle.levels.specs.declared.view.Face.{Face}

-- p has a code's kind and the sides
abbrev pub IsPicture : ℕ → ℕ → ℕ → Picture → Type 0
IsPicture kind w h p = (code_of p.kind ≡ kind) × (p.width ≡ w) × (p.height ≡ h)

-- r is where face f of level m starts, and its texels
abbrev pub IsFace : ℕ → ℕ → ℕ → ℕ → ℕ → Face → Type 0
IsFace kind w h m f r = (r.start ≡ face_start (faces_of kind) w h m f) × (r.size ≡ side_at m h * side_at m w)
