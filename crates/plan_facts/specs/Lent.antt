-- What a list holds once a slice of it was lent.
use Rattle.std.specs.Prelude.{List, ◌++◌, length, take, drop}

-- a list of the length that it had, with what was written at its front
abbrev pub written_back : {A : Type 0} → List A → List A → List A
written_back was written = take (length was) (written ++ drop (length written) was)
