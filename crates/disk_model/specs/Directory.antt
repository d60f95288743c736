-- Files by name. This project's own.
use Rattle.std.specs.Prelude.{◌≡◌, ℕ, List, take, Option, Some, None, ⊤}
use Rattle.std.specs.List.{find}
use Rattle.std.specs.Str.{bytes_eq}
use Rattle.disk_model.specs.declared.files.TheConstants.{MAX_FETCH_BYTES}

pub record File : Type 0 where
  pub name : List ℕ
  pub bytes : List ℕ

-- the file with this name, the first if there are several
abbrev pub file_named : List File → List ℕ → Option File
file_named files name = find (λ f. bytes_eq f.name name) files

-- the bytes that a fetch of this name returns, if the files are known
abbrev pub IsFetched : Option (List File) → (name bytes : List ℕ) → Type 0
IsFetched None name bytes = ⊤
IsFetched (Some files) name bytes = (file : File) × (file_named files name ≡ Some file) × (bytes ≡ take MAX_FETCH_BYTES file.bytes)
