-- A choice by a test.
use Rattle.std.specs.Prelude.{Bool, true, false}

abbrev pub if {ℓ} : {A : Type ℓ} → Bool → A → A → A
if true a b = a
if false a b = b
