-- The worked example of document 01, "A file and its lines".
use Rattle.std.specs.Prelude.{◌≡◌}
use Rattle.load.specs.Instances.{worked}
use Rattle.lines.specs.Words.{bytes}
use Rattle.answer.specs.Text.{text_of}

abbrev pub Worked : Type 0
Worked =
    text_of worked
    ≡ bytes "system 3 3 2 2 0 4 sound\nprobe yes 3 2\ndecide 1 1 taken\ninspect changed 1 1\nprobe yes 0 0\ndecide 0 1 against\n"
