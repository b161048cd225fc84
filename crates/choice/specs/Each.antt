-- What is true in each of four lanes. Definitions only.
use Rattle.rules.specs.declared.Four.{Four}

-- of one value a lane
pub record InEach {T : Type 0} (is : T → Type 0) (of : Four T) : Type 0 where
  pub a : is of.a
  pub b : is of.b
  pub c : is of.c
  pub d : is of.d

-- of two values a lane
pub record Beside {T U : Type 0} (is : T → U → Type 0) (of : Four T) (by : Four U) : Type 0 where
  pub a : is of.a by.a
  pub b : is of.b by.b
  pub c : is of.c by.c
  pub d : is of.d by.d

-- what is made of one value a lane
abbrev pub each_of : {T U : Type 0} → (T → U) → Four T → Four U
each_of f of = record { a = f of.a; b = f of.b; c = f of.c; d = f of.d }

-- and of two
abbrev pub each_two : {T U V : Type 0} → (T → U → V) → Four T → Four U → Four V
each_two f x y = record { a = f x.a y.a; b = f x.b y.b; c = f x.c y.c; d = f x.d y.d }
