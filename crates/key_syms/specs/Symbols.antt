-- The symbol table: the names of docs/reference/keys.md, each with its action. `dev/gen/key_index.py` reads this file.
use Rattle.std.specs.Prelude.{ℕ, ◌==◌, List, [], ◌∷◌, ◌++◌, suc, map, codes}
use Rattle.std.specs.Fmt.{decimal}
use Rattle.std.specs.List.{range_with_len, slice_split}
use Rattle.std.specs.Str.{str_to_ascii_lowercase}
use Rattle.key_syms.specs.Act.{Act, act}
use Rattle.key_syms.specs.Kinds.{ASCII, CHARACTER, CONSOLE, CURSOR, DEAD, FUNCTION, HOLE, LETTER, LOCK, META, MODIFIER, PAD, SPECIAL, STICKY}

-- a name and its action
pub record Symbol : Type 0 where
  pub name : List ℕ
  pub act : Act

-- names of consecutive values of a kind
abbrev pub run_of : ℕ → ℕ → List (List ℕ) → List Symbol
run_of kind value [] = []
run_of kind value (name ∷ names) =
    record { name = name; act = act kind value } ∷ run_of kind (suc value) names

-- the names of a text, with one blank between
abbrev pub names_in : List ℕ → List (List ℕ)
names_in text = slice_split (λ b. b == 0x20) text

-- a text before each of the names
abbrev pub with_before : List ℕ → List (List ℕ) → List (List ℕ)
with_before text names = map (λ name. text ++ name) names

-- a text after each of the names
abbrev pub with_after : List ℕ → List (List ℕ) → List (List ℕ)
with_after text names = map (λ name. name ++ text) names

-- n characters from the first one on, each as its own name
abbrev pub own_names : ℕ → ℕ → List (List ℕ)
own_names first n = map (λ code. code ∷ []) (range_with_len first n)

-- a text with each of n numbers after it, from the first one on
abbrev pub names_with_numbers : List ℕ → ℕ → ℕ → List (List ℕ)
names_with_numbers text first n = map (λ i. text ++ decimal i) (range_with_len first n)

-- the names in lower case
abbrev pub lower_case_names : List (List ℕ) → List (List ℕ)
lower_case_names names = map str_to_ascii_lowercase names

-- the control characters of n letters, from the first one on
abbrev pub control_names : ℕ → ℕ → List (List ℕ)
control_names first n = with_before (codes "Control_") (own_names first n)

-- the characters 00 to 7F
abbrev pub names_of_ascii : List (List ℕ)
names_of_ascii =
    names_in (codes "nul") ++ control_names 0x61 7
    ++ names_in (codes "BackSpace Tab Linefeed") ++ control_names 0x6B 16
    ++ names_in (codes "Escape Control_backslash Control_bracketright Control_asciicircum")
    ++ names_in (codes "Control_underscore space exclam quotedbl numbersign dollar percent")
    ++ names_in (codes "ampersand apostrophe parenleft parenright asterisk plus comma minus")
    ++ names_in (codes "period slash zero one two three four five six seven eight nine colon")
    ++ names_in (codes "semicolon less equal greater question at") ++ own_names 0x41 26
    ++ names_in (codes "bracketleft backslash bracketright asciicircum underscore grave")
    ++ own_names 0x61 26 ++ names_in (codes "braceleft bar braceright asciitilde Delete")

-- second names of the characters 08 to 0A
abbrev pub second_names : List (List ℕ)
second_names = control_names 0x68 3

-- the letters C0 to D6
abbrev pub names_from_C0 : List (List ℕ)
names_from_C0 =
    names_in (codes "Agrave Aacute Acircumflex Atilde Adiaeresis Aring AE Ccedilla")
    ++ names_in (codes "Egrave Eacute Ecircumflex Ediaeresis")
    ++ names_in (codes "Igrave Iacute Icircumflex Idiaeresis")
    ++ names_in (codes "ETH Ntilde Ograve Oacute Ocircumflex Otilde Odiaeresis")

-- the letters D8 to DE
abbrev pub names_from_D8 : List (List ℕ)
names_from_D8 =
    names_in (codes "Oslash Ugrave Uacute Ucircumflex Udiaeresis Yacute THORN")

-- the characters A0 to FF
abbrev pub names_of_latin1 : List (List ℕ)
names_of_latin1 =
    names_in (codes "nobreakspace exclamdown cent sterling currency yen brokenbar section")
    ++ names_in (codes "diaeresis copyright ordfeminine guillemotleft notsign hyphen registered")
    ++ names_in (codes "macron degree plusminus twosuperior threesuperior acute mu paragraph")
    ++ names_in (codes "periodcentered cedilla onesuperior masculine guillemotright")
    ++ names_in (codes "onequarter onehalf threequarters questiondown")
    ++ names_from_C0 ++ names_in (codes "multiply")
    ++ names_from_D8 ++ names_in (codes "ssharp")
    ++ lower_case_names names_from_C0 ++ names_in (codes "division")
    ++ lower_case_names names_from_D8 ++ names_in (codes "ydiaeresis")

-- the function keys
abbrev pub names_of_functions : List (List ℕ)
names_of_functions =
    names_with_numbers (codes "F") 1 20
    ++ names_in (codes "Find Insert Remove Select Prior Next Macro Help Do Pause")
    ++ names_with_numbers (codes "F") 21 226

-- the pad keys
abbrev pub names_of_pad : List (List ℕ)
names_of_pad =
    names_with_numbers (codes "KP_") 0 10
    ++ with_before (codes "KP_")
    (names_in (codes "Add Subtract Multiply Divide Enter Comma Period"))

-- the dead keys
abbrev pub names_of_dead : List (List ℕ)
names_of_dead =
    with_before (codes "dead_")
    (names_in (codes "grave acute circumflex tilde diaeresis cedilla"))

-- the modifiers
abbrev pub names_of_modifiers : List (List ℕ)
names_of_modifiers = names_in (codes "Shift AltGr Control Alt ShiftL ShiftR CtrlL CtrlR")

-- the special actions
abbrev pub names_of_specials : List (List ℕ)
names_of_specials =
    names_in (codes "Return Caps_Lock Num_Lock Scroll_Lock")
    ++ names_in (codes "Last_Console Incr_Console Decr_Console KeyboardSignal SAK Compose")
    ++ names_in (codes "Bare_Num_Lock Caps_On Break Boot")
    ++ names_in (codes "Show_Memory Show_Registers Show_State Scroll_Forward Scroll_Backward")

-- the characters, as values of a kind, with a text before their names
abbrev pub characters : ℕ → List ℕ → List Symbol
characters kind text =
    run_of kind 0x00 (with_before text names_of_ascii)
    ++ run_of kind 0x08 (with_before text second_names)
    ++ run_of kind 0xA0 (with_before text names_of_latin1)
    ++ run_of kind 0x20AC (with_before text (names_in (codes "euro")))

-- the symbol table: the first name of an action is the one that it is written with
unfoldable pub symbols : List Symbol
symbols =
    run_of HOLE 0 (names_in (codes "VoidSymbol"))
    ++ characters CHARACTER (codes "")
    ++ characters LETTER (codes "+")
    ++ run_of META 0x00 (with_before (codes "Meta_") names_of_ascii)
    ++ run_of META 0x08 (with_before (codes "Meta_") second_names)
    ++ run_of FUNCTION 0 names_of_functions
    ++ run_of FUNCTION 20 (names_in (codes "Home"))
    ++ run_of FUNCTION 23 (names_in (codes "End PageUp PageDown"))
    ++ run_of PAD 0 names_of_pad
    ++ run_of CURSOR 0 (names_in (codes "Down Left Right Up"))
    ++ run_of DEAD 0 names_of_dead
    ++ run_of MODIFIER 0 names_of_modifiers
    ++ run_of LOCK 0 (with_after (codes "_Lock") names_of_modifiers)
    ++ run_of STICKY 0 (with_before (codes "S") names_of_modifiers)
    ++ run_of CONSOLE 1 (names_with_numbers (codes "Console_") 1 63)
    ++ run_of SPECIAL 1 names_of_specials
    ++ run_of ASCII 0 (names_with_numbers (codes "Ascii_") 0 10)
