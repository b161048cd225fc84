-- What holds of each number of a direction, of a basis, of a colour, and of the four colours of a sum. Assumes nothing.
use lib.Ieee.{Float}
use Rattle.rules.specs.declared.Vector.{Vector}
use Rattle.rules.specs.declared.Basis.{Basis}
use Rattle.rules.specs.declared.Rgb.{Rgb}
use Rattle.rules.specs.Irradiance.{Sh4}

pub record Along (P : Float → Type 0) (n : Vector Float) : Type 0 where
  pub x : P n.x
  pub y : P n.y
  pub z : P n.z

pub record OnBasis (P : Float → Type 0) (k : Basis Float) : Type 0 where
  pub constant : P k.constant
  pub y : P k.y
  pub z : P k.z
  pub x : P k.x

pub record EachOf (P : Float → Type 0) (c : Rgb) : Type 0 where
  pub r : P c.r
  pub g : P c.g
  pub b : P c.b

pub record AllOf (P : Float → Type 0) (s : Sh4) : Type 0 where
  pub constant : EachOf P s.constant
  pub y : EachOf P s.y
  pub z : EachOf P s.z
  pub x : EachOf P s.x

-- what follows from it, of each
module _ {P Q : Float → Type 0} (f : (x : Float) → P x → Q x) where
  pub basis-map : {k : Basis Float} → OnBasis P k → OnBasis Q k
  basis-map {k} p = record { constant = f k.constant p.constant; y = f k.y p.y; z = f k.z p.z; x = f k.x p.x }

  pub each_map : {c : Rgb} → EachOf P c → EachOf Q c
  each_map {c} p = record { r = f c.r p.r; g = f c.g p.g; b = f c.b p.b }

  pub all_map : {s : Sh4} → AllOf P s → AllOf Q s
  all_map p = record { constant = each_map p.constant; y = each_map p.y; z = each_map p.z; x = each_map p.x }
