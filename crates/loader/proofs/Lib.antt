pub mod LoaderLaws
