-- Why words gave no command, by the kind of clap's error.
use Rattle.clap.specs.declared.error.kind.ErrorKind.{ErrorKind}
use Rattle.clap.specs.declared.error.kind.ErrorKind.TheVariants as kinds
use Rattle.dp_words.specs.declared.parsing.WordsFault.{WordsFault}
use Rattle.dp_words.specs.declared.parsing.WordsFault.TheVariants as faults

abbrev pub fault_of : ErrorKind → WordsFault
fault_of kinds.OutOfMemory = faults.OutOfMemory
fault_of kind = faults.Usage
