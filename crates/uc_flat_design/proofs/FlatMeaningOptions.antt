-- What stands behind an answer that is there.
use Rattle.std.proofs.Common.{◌≡◌, Bool, true, false, Option, Some, None, refl}
use Rattle.std.specs.Prelude.{if◌then◌else◌}
use Rattle.std.specs.Option.{option_map, option_and_then}

pub some_is : {A : Type 0} (x y : A) → Some x ≡ Some y → x ≡ y
some_is x y h = cc

pub then_some : {A B : Type 0} (f : A → Option B) (o : Option A) (y : B) → option_and_then f o ≡ Some y → (x : A) × (o ≡ Some x) × (f x ≡ Some y)
then_some f None y h = cc
then_some f (Some x) y h = (x, refl, h)

pub map_some : {A B : Type 0} (f : A → B) (o : Option A) (y : B) → option_map f o ≡ Some y → (x : A) × (o ≡ Some x) × (f x ≡ y)
map_some f None y h = cc
map_some f (Some x) y h = (x, refl, some_is (f x) y h)

pub if_some : {A : Type 0} (b : Bool) (x y : A) → (if b then Some x else None) ≡ Some y → (b ≡ true) × (x ≡ y)
if_some true x y h = (refl, some_is x y h)
if_some false x y h = cc

pub if_then : {A : Type 0} (b : Bool) (o : Option A) (y : A) → (if b then o else None) ≡ Some y → (b ≡ true) × (o ≡ Some y)
if_then true o y h = (refl, h)
if_then false o y h = cc
