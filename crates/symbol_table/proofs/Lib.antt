mod SymbolLaws
